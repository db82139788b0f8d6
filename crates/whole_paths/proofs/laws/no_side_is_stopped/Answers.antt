use Rattle.whole_paths.proofs.NeverAborted as stopped
use Rattle.whole_paths.proofs.laws.no_side_is_stopped.Goals as goal

pub returns : goal.returns
returns c = stopped.no_side_is_stopped
