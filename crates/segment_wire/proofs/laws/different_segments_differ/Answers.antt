use Rattle.segment_wire.proofs.Again.{segment_text-differs}
use Rattle.segment_wire.proofs.laws.different_segments_differ.Goals as goal

pub returns : goal.returns
returns c = λ addresses s t are can_s can_t same. segment_text-differs addresses s t are.source are.destination can_s can_t same
