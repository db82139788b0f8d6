use Rattle.actor_desk.proofs.LastNote.{popped}
use Rattle.actor_desk.proofs.notes.Notes.take_back.Goals as goal

pub returns : goal.returns
returns c = λ notes note is. popped c.pop.result _ _ notes note c.pop.ensures.some c.pop.ensures.none.0 is
