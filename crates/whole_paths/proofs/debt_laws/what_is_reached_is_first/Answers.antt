use Rattle.whole_paths.proofs.FirstReached as records
use Rattle.whole_paths.proofs.debt_laws.what_is_reached_is_first.Goals as goal

pub returns : goal.returns
returns c = records.what_is_reached_is_first
