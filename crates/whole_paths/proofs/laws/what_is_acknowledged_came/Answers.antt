use Rattle.whole_paths.proofs.Came as came
use Rattle.whole_paths.proofs.laws.what_is_acknowledged_came.Goals as goal

pub returns : goal.returns
returns c = came.what_is_acknowledged_came
