use Rattle.run_log.proofs.LogReads.{reads_to_its_turns}
use Rattle.run_log.proofs.laws.a_log_reads_to_its_turns.Goals as goal

pub returns : goal.returns
returns c = reads_to_its_turns
