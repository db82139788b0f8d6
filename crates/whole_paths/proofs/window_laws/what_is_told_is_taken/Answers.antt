use Rattle.whole_paths.proofs.OfferedTaken.{what_is_told_is_taken}
use Rattle.whole_paths.proofs.window_laws.what_is_told_is_taken.Goals as goal

pub returns : goal.returns
returns c = what_is_told_is_taken
