-- Actors' lists and books' journals: when they are paired and chained, and the order of all steps.
use Rattle.std.specs.Prelude.{ℕ, ◌≡◌, ◌+◌, ◌<◌, ◌==◌, ◌&&◌, ◌||◌, Bool, true, false, nat_lt, if◌then◌else◌, List, [], ◌∷◌, map, filter}
use Rattle.std.specs.List.{Contains}
use Rattle.sides.specs.declared.side.Side.{Side}
use Rattle.stamped_book.specs.declared.stamped.Entry.{Entry}
use Rattle.send_book.specs.declared.call.SendCall.{SendCall}
use Rattle.send_book.specs.declared.call.SendReply.{SendReply}
use Rattle.reassembly_book.specs.declared.call.ReassemblyCall.{ReassemblyCall}
use Rattle.reassembly_book.specs.declared.call.ReassemblyReply.{ReassemblyReply}
use Rattle.control_book.specs.declared.call.ControlCall.{ControlCall}
use Rattle.control_book.specs.declared.call.ControlReply.{ControlReply}
use Rattle.actor_desk.specs.declared.ask.Ask.{Ask}
use Rattle.actor_desk.specs.declared.ask.Ask.TheVariants as asks
use Rattle.actor_desk.specs.declared.ask.Note.{Note}
use Rattle.actor_desk.specs.declared.ask.Reply.TheVariants as replies

-- ---- an entry of a journal, as the note of the actor that made it

abbrev pub send_note : Side → Entry SendCall SendReply → Note
send_note s e = record { stamp = e.stamp; seen = e.seen; actor = e.actor; ask = asks.Send s e.call; reply = replies.Send e.reply }

abbrev pub reassembly_note : Side → Entry ReassemblyCall ReassemblyReply → Note
reassembly_note s e =
    record { stamp = e.stamp; seen = e.seen; actor = e.actor; ask = asks.Reassembly s e.call; reply = replies.Reassembly e.reply }

abbrev pub control_note : Side → Entry ControlCall ControlReply → Note
control_note s e = record { stamp = e.stamp; seen = e.seen; actor = e.actor; ask = asks.Control s e.call; reply = replies.Control e.reply }

-- ---- chained

-- a step that is made at no book
abbrev pub is_local : Ask → Bool
is_local (asks.Local step) = true
is_local _ = false

-- the notes of an actor, which had seen this stamp: each has seen the stamp before it, and a local one has the next stamp
abbrev pub AreChained : ℕ → List Note → Type 0
AreChained seen [] = Unit {0}
AreChained seen (note ∷ notes) =
    (note.seen ≡ seen) × (seen < note.stamp) × (is_local note.ask ≡ true → note.stamp ≡ seen + 1) × AreChained note.stamp notes

-- ---- paired

-- the notes above a stamp
abbrev pub above : ℕ → List Note → List Note
above after notes = filter (λ note. nat_lt after note.stamp) notes

-- above a stamp, each entry of these journals, as notes, is one of the lists', and each note at a book is an entry
pub record ArePaired (after : ℕ) (lists journals : List (List Note)) : Type 0 where
  pub notes : (list : List Note) (note : Note) → Contains lists list → Contains list note → after < note.stamp → is_local note.ask ≡ false
      → (journal : List Note) × Contains journals journal × Contains journal note
  pub entries : (journal : List Note) (note : Note) → Contains journals journal → Contains journal note → after < note.stamp
      → (list : List Note) × Contains lists list × Contains list note

-- ---- the order

-- by stamp, then by actor
abbrev pub comes_first : Note → Note → Bool
comes_first x y = nat_lt x.stamp y.stamp || (x.stamp == y.stamp && nat_lt x.actor y.actor)

-- a note stands before the first one that it comes before
abbrev pub with_note : Note → List Note → List Note
with_note x [] = x ∷ []
with_note x (y ∷ notes) = if comes_first x y then x ∷ y ∷ notes else y ∷ with_note x notes

-- each of these notes is put in so
abbrev pub with_notes : List Note → List Note → List Note
with_notes [] order = order
with_notes (x ∷ notes) order = with_notes notes (with_note x order)

-- the notes above a stamp of all lists, in that order
abbrev pub in_order : ℕ → List (List Note) → List Note
in_order after [] = []
in_order after (list ∷ lists) = with_notes (above after list) (in_order after lists)

-- the actors of all steps above a stamp, in the order in which these may have been made
abbrev pub order_of : ℕ → List (List Note) → List ℕ
order_of after lists = map (λ note. note.actor) (in_order after lists)
