use Rattle.whole_paths.proofs.ClearRounds as rounds
use Rattle.whole_paths.proofs.debt_laws.lost_records_are_first.Goals as goal

pub returns-clause-stays : goal.returns-clause-stays
returns-clause-stays c = rounds.lost_records_stay

pub returns-clause-first : goal.returns-clause-first
returns-clause-first c = rounds.lost_records_are_first
