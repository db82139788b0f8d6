-- What is wanted of a note.
use Rattle.std.proofs.Common.{◌≡◌, refl, Option, Some, None, option_map}
use Rattle.actor_desk.specs.declared.ask.Note.{Note}

-- the whole of a note is the note
pub same_note : (o : Option Note) → option_map (λ note. note) o ≡ o
same_note = elim [ None ↦ refl | Some note ↦ refl ]
