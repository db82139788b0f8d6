-- What the six books with their journals answer, and their journals as notes of the actors that asked.
use Rattle.std.specs.Prelude.{List, [], ◌∷◌, map}
use Rattle.sides.specs.declared.side.Side.TheVariants as side
use Rattle.actor_desk.specs.declared.ask.Ask.{Ask}
use Rattle.actor_desk.specs.declared.ask.Note.{Note}
use Rattle.actor_desk.specs.declared.ask.Reply.{Reply}
use Rattle.actor_desk.specs.Books.{StampedBooks, books_in}
use Rattle.actor_desk.specs.Desk.{reply_of}
use Rattle.actor_desk.specs.Journals.{send_note, reassembly_note, control_note}

abbrev pub answer_to : StampedBooks → Ask → Reply
answer_to books ask = reply_of (books_in books) ask

-- the journals of the send books, the reassembly books and the control books, A's first each time
abbrev pub journals_of : StampedBooks → List (List Note)
journals_of books =
    map (send_note side.A) books.send_a.journal ∷ map (send_note side.B) books.send_b.journal
    ∷ map (reassembly_note side.A) books.reassembly_a.journal ∷ map (reassembly_note side.B) books.reassembly_b.journal
    ∷ map (control_note side.A) books.control_a.journal ∷ map (control_note side.B) books.control_b.journal ∷ []
