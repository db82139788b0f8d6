-- The six books of a desk, and what a pass and the root know of each.
use Rattle.std.specs.Prelude.{◌≡◌, ◌+◌, ℕ, Bool, true, false, ◌||◌, List, [], ◌∷◌, ◌++◌, length, map, replicate, slice_set, slice_index_or}
use Rattle.sides.specs.declared.side.Side.TheVariants as side
use Rattle.atomic_table.specs.Seated.{TableId}
use Rattle.send_book.specs.declared.call.SendCall.{SendCall}
use Rattle.send_book.specs.declared.call.SendReply.{SendReply}
use Rattle.send_book.specs.State.{Sending}
use Rattle.reassembly_book.specs.declared.call.ReassemblyCall.{ReassemblyCall}
use Rattle.reassembly_book.specs.declared.call.ReassemblyReply.{ReassemblyReply}
use Rattle.reassembly_book.specs.State.{Arriving}
use Rattle.control_book.specs.declared.call.ControlCall.{ControlCall}
use Rattle.control_book.specs.declared.call.ControlReply.{ControlReply}
use Rattle.control_book.specs.Control.{Control}
use Rattle.actor_desk.specs.declared.ask.Ask.{Ask}
use Rattle.actor_desk.specs.declared.ask.Ask.TheVariants as asks
use Rattle.actor_desk.specs.Books.{StampedBooks}
use Rattle.actor_desk.specs.Desk.{SixBooks}
use Rattle.actor_desk.specs.Journals.{send_note, reassembly_note, control_note}
use Rattle.actor_desk.specs.Noted.{BookNotes}
use Rattle.actor_desk.specs.Words.{pick}
use Rattle.ruled_desk.specs.Seats.{Locked, Known, GainsJust, known}
use Rattle.ruled_desk.specs.Weighing.{bit}

-- each book's table, and the book as it was put there
pub record SixLocked : Type 0 where
  pub send_a : Locked Sending SendCall SendReply
  pub send_b : Locked Sending SendCall SendReply
  pub reassembly_a : Locked Arriving ReassemblyCall ReassemblyReply
  pub reassembly_b : Locked Arriving ReassemblyCall ReassemblyReply
  pub control_a : Locked Control ControlCall ControlReply
  pub control_b : Locked Control ControlCall ControlReply

-- what is known of each book
pub record SixKnown : Type 0 where
  pub send_a : Known SendCall SendReply
  pub send_b : Known SendCall SendReply
  pub reassembly_a : Known ReassemblyCall ReassemblyReply
  pub reassembly_b : Known ReassemblyCall ReassemblyReply
  pub control_a : Known ControlCall ControlReply
  pub control_b : Known ControlCall ControlReply

-- a pass of an actor
pub record Passed : Type 0 where
  pub actor : ℕ
  pub books : SixKnown

-- the root: of which actors a pass is out, and what it knows
pub record Rooted : Type 0 where
  pub out : List Bool
  pub books : SixKnown

-- the books as they were put there
abbrev pub given_to : SixLocked → StampedBooks
given_to desk = record {
  send_a = desk.send_a.start;
  send_b = desk.send_b.start;
  reassembly_a = desk.reassembly_a.start;
  reassembly_b = desk.reassembly_b.start;
  control_a = desk.control_a.start;
  control_b = desk.control_b.start;
}

-- nothing yet, at these tables
abbrev pub nothing_known : SixLocked → SixKnown
nothing_known desk = record {
  send_a = known desk.send_a.table [] false;
  send_b = known desk.send_b.table [] false;
  reassembly_a = known desk.reassembly_a.table [] false;
  reassembly_b = known desk.reassembly_b.table [] false;
  control_a = known desk.control_a.table [] false;
  control_b = known desk.control_b.table [] false;
}

-- what is known is of the tables of this desk
pub record AreOf (desk : SixLocked) (books : SixKnown) : Type 0 where
  pub send_a : books.send_a.table ≡ desk.send_a.table
  pub send_b : books.send_b.table ≡ desk.send_b.table
  pub reassembly_a : books.reassembly_a.table ≡ desk.reassembly_a.table
  pub reassembly_b : books.reassembly_b.table ≡ desk.reassembly_b.table
  pub control_a : books.control_a.table ≡ desk.control_a.table
  pub control_b : books.control_b.table ≡ desk.control_b.table

-- more entries stand behind those that were known; a full journal is noted where either notes it
abbrev pub known_more : {C R : Type 0} → Known C R → Known C R → Known C R
known_more k more = known k.table (k.own ++ more.own) (k.full || more.full)

-- the entries and notes of a pass behind those that were known
abbrev pub all_known : SixKnown → SixKnown → SixKnown
all_known books more = record {
  send_a = known_more books.send_a more.send_a;
  send_b = known_more books.send_b more.send_b;
  reassembly_a = known_more books.reassembly_a more.reassembly_a;
  reassembly_b = known_more books.reassembly_b more.reassembly_b;
  control_a = known_more books.control_a more.control_a;
  control_b = known_more books.control_b more.control_b;
}

-- each journal gained what is known of it
pub record AllGainJust (old new : StampedBooks) (books : SixKnown) : Type 0 where
  pub send_a : GainsJust old.send_a new.send_a books.send_a.own books.send_a.full
  pub send_b : GainsJust old.send_b new.send_b books.send_b.own books.send_b.full
  pub reassembly_a : GainsJust old.reassembly_a new.reassembly_a books.reassembly_a.own books.reassembly_a.full
  pub reassembly_b : GainsJust old.reassembly_b new.reassembly_b books.reassembly_b.own books.reassembly_b.full
  pub control_a : GainsJust old.control_a new.control_a books.control_a.own books.control_a.full
  pub control_b : GainsJust old.control_b new.control_b books.control_b.own books.control_b.full

-- ---- who is out

-- no actor's pass is out
abbrev pub nobody_out : List Bool
nobody_out = replicate 256 false

-- whether the pass of an actor is out
abbrev pub is_out : List Bool → ℕ → Bool
is_out out actor = slice_index_or out actor false

-- how many are out
abbrev pub how_many : List Bool → ℕ
how_many [] = 0
how_many (one ∷ out) = bit one + how_many out

-- the pass of an actor is out, and what is known stays
abbrev pub passed_out : ℕ → Rooted → Rooted
passed_out actor root = record root { out = slice_set root.out actor true }

-- the pass of an actor is out no more, and what is known stays
abbrev pub passed_back : ℕ → Rooted → Rooted
passed_back actor root = record root { out = slice_set root.out actor false }

-- ---- as a desk

-- the entries of a pass, as notes
abbrev pub notes_by : SixKnown → BookNotes
notes_by books = record {
  send_a = map (send_note side.A) books.send_a.own;
  send_b = map (send_note side.B) books.send_b.own;
  reassembly_a = map (reassembly_note side.A) books.reassembly_a.own;
  reassembly_b = map (reassembly_note side.B) books.reassembly_b.own;
  control_a = map (control_note side.A) books.control_a.own;
  control_b = map (control_note side.B) books.control_b.own;
}

-- the books that the six were opened with
abbrev pub origin_at : SixLocked → SixBooks
origin_at desk = record {
  send_a = desk.send_a.start.opening;
  send_b = desk.send_b.start.opening;
  reassembly_a = desk.reassembly_a.start.opening;
  reassembly_b = desk.reassembly_b.start.opening;
  control_a = desk.control_a.start.opening;
  control_b = desk.control_b.start.opening;
}

-- the journal of the asked book is noted as full
abbrev pub notes_full : Ask → SixKnown → Bool
notes_full (asks.Send s call) books = pick s books.send_a.full books.send_b.full
notes_full (asks.Reassembly s call) books = pick s books.reassembly_a.full books.reassembly_b.full
notes_full (asks.Control s call) books = pick s books.control_a.full books.control_b.full
notes_full (asks.Local step) books = false

-- what names a table, as numbers
abbrev pub numbers_of : TableId → List ℕ
numbers_of table =
    table.words ∷ table.slots ∷ table.views_name ∷ table.atom ∷ table.block ∷ table.offset ∷ length table.slot_names ∷ table.slot_names

-- what names the six tables
abbrev pub names_of : SixLocked → List ℕ
names_of desk =
    numbers_of desk.send_a.table
    ++ (numbers_of desk.send_b.table
    ++ (numbers_of desk.reassembly_a.table ++ (numbers_of desk.reassembly_b.table ++ (numbers_of desk.control_a.table ++ (numbers_of desk.control_b.table ++ [])))))
