use Rattle.whole_paths.proofs.DirectionsMended as mended
use Rattle.whole_paths.proofs.near_laws.directions_are_mended_unless_more_is_heard.Goals as goal

pub returns : goal.returns
returns c = mended.directions_are_mended_unless_more_is_heard
