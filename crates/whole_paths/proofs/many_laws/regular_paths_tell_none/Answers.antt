use Rattle.whole_paths.proofs.NoPriorities as none
use Rattle.whole_paths.proofs.many_laws.regular_paths_tell_none.Goals as goal

pub returns : goal.returns
returns c = none.regular_paths_tell_none
