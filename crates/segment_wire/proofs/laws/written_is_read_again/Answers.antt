use Rattle.segment_wire.proofs.Again.{segment_meaning-written}
use Rattle.segment_wire.proofs.laws.written_is_read_again.Goals as goal

pub returns : goal.returns
returns c = λ addresses segment are can. segment_meaning-written addresses segment are.source are.destination can
