use Rattle.whole_paths.proofs.RoundSteps as rounds
use Rattle.whole_paths.proofs.delivery_laws.each_round_writes_and_reads.Goals as goal

pub returns-clause-writes : goal.returns-clause-writes
returns-clause-writes c = rounds.each_round_writes

pub returns-clause-reads : goal.returns-clause-reads
returns-clause-reads c = rounds.each_round_reads
