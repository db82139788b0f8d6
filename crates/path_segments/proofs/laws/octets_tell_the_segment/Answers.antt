use Rattle.path_segments.proofs.Differing.{differs}
use Rattle.path_segments.proofs.laws.octets_tell_the_segment.Goals as goal

pub returns : goal.returns
returns c = differs
