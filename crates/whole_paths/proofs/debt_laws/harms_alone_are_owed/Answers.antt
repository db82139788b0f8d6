use Rattle.whole_paths.proofs.Unmended as unmended
use Rattle.whole_paths.proofs.debt_laws.harms_alone_are_owed.Goals as goal

pub returns : goal.returns
returns c = unmended.harms_alone_are_owed
