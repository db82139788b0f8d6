use Rattle.whole_paths.proofs.ManyGoingOn as going_on
use Rattle.whole_paths.proofs.holder_laws.paths_go_on.Goals as goal

pub returns : goal.returns
returns c = going_on.paths_go_on
