-- What a desk notes of the calls at each book, and what a call adds to it.
use Rattle.std.specs.Prelude.{◌<◌, ◌^◌, ◌≡◌, Option, Some, None, List, [], ◌∷◌, ◌++◌, map}
use Rattle.sides.specs.declared.side.Side.TheVariants as side
use Rattle.stamped_book.specs.declared.stamped.Pass.{Pass}
use Rattle.actor_desk.specs.declared.ask.Ask.{Ask}
use Rattle.actor_desk.specs.declared.ask.Ask.TheVariants as asks
use Rattle.actor_desk.specs.declared.ask.Note.{Note}
use Rattle.actor_desk.specs.declared.ask.Reply.{Reply}
use Rattle.actor_desk.specs.Books.{StampedBooks}
use Rattle.actor_desk.specs.Journals.{send_note, reassembly_note, control_note}
use Rattle.actor_desk.specs.Words.{pick}

-- the notes at each book, in order
pub record BookNotes : Type 0 where
  pub send_a : List Note
  pub send_b : List Note
  pub reassembly_a : List Note
  pub reassembly_b : List Note
  pub control_a : List Note
  pub control_b : List Note

-- the entries of the journals, as notes
abbrev pub notes_in : StampedBooks → BookNotes
notes_in b = record {
  send_a = map (send_note side.A) b.send_a.journal;
  send_b = map (send_note side.B) b.send_b.journal;
  reassembly_a = map (reassembly_note side.A) b.reassembly_a.journal;
  reassembly_b = map (reassembly_note side.B) b.reassembly_b.journal;
  control_a = map (control_note side.A) b.control_a.journal;
  control_b = map (control_note side.B) b.control_b.journal;
}

-- the note of a call, from the asker's pass before and after it
abbrev pub note_of : Pass → Pass → Ask → Reply → Note
note_of before after ask reply = record { stamp = after.stamp; seen = before.stamp; actor = before.actor; ask = ask; reply = reply }

-- a note more at the book that was asked
abbrev pub with_note : Ask → Note → BookNotes → BookNotes
with_note (asks.Send s call) note notes = record notes {
  send_a = pick s (notes.send_a ++ note ∷ []) notes.send_a;
  send_b = pick s notes.send_b (notes.send_b ++ note ∷ []);
}
with_note (asks.Reassembly s call) note notes = record notes {
  reassembly_a = pick s (notes.reassembly_a ++ note ∷ []) notes.reassembly_a;
  reassembly_b = pick s notes.reassembly_b (notes.reassembly_b ++ note ∷ []);
}
with_note (asks.Control s call) note notes = record notes {
  control_a = pick s (notes.control_a ++ note ∷ []) notes.control_a;
  control_b = pick s notes.control_b (notes.control_b ++ note ∷ []);
}
with_note (asks.Local step) note notes = notes

-- the notes with one more at the book that it asks; a desk that keeps none, as others ask its books too, keeps none
abbrev pub noted : Option BookNotes → Note → Option BookNotes
noted None note = None
noted (Some notes) note = Some (with_note note.ask note notes)

-- the actor stays, and the stamp rises, to one below 2^62
pub record Rises (before after : Pass) : Type 0 where
  pub actor : after.actor ≡ before.actor
  pub stamp : before.stamp < after.stamp
  pub small : after.stamp < 2 ^ 62
