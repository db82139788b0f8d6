use Rattle.whole_paths.proofs.UnaSaid as said
use Rattle.whole_paths.proofs.laws.each_acknowledgement_is_said.Goals as goal

pub returns : goal.returns
returns c = said.each_una_is_said
