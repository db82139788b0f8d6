use Rattle.whole_paths.proofs.Unstopped as unstopped
use Rattle.whole_paths.proofs.delivery_laws.mild_paths_are_never_stopped.Goals as goal

pub returns : goal.returns
returns c = unstopped.sides_are_never_stopped
