use Rattle.path_segments.proofs.ChangedSegments.{altered_is_said}
use Rattle.path_segments.proofs.laws.altered_is_said.Goals as goal

pub returns : goal.returns
returns c = altered_is_said
