use Rattle.path_segments.proofs.SegmentsAgain.{heard_as_meant}
use Rattle.path_segments.proofs.laws.written_is_heard_as_meant.Goals as goal

pub returns : goal.returns
returns c = heard_as_meant
