use Rattle.whole_paths.proofs.ToldEdges.{what_is_told_goes_on}
use Rattle.whole_paths.proofs.window_laws.what_is_told_goes_on.Goals as goal

pub returns : goal.returns
returns c = what_is_told_goes_on
