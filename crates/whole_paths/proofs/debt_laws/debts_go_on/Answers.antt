use Rattle.whole_paths.proofs.Unmended as unmended
use Rattle.whole_paths.proofs.debt_laws.debts_go_on.Goals as goal

pub returns : goal.returns
returns c = unmended.debts_go_on
