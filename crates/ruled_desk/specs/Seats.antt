-- What a lock, its seats and a pass mean.
use Rattle.std.specs.Prelude.{◌≡◌, ℕ, Bool, true, false, List, [], Contains}
use Rattle.atomic_table.specs.Seated.{TableId}
use Rattle.stamped_book.specs.Journal.{Journaled}
use Rattle.stamped_book.specs.declared.stamped.Entry.{Entry}
use Rattle.ruled_desk.specs.Growing.{HasLastStamp, grown}
use Rattle.ruled_desk.specs.Weighing.{weigh}

-- a book's table, and the book as it was put there
pub record Locked (O C R : Type 0) : Type 0 where
  pub table : TableId
  pub start : Journaled O C R

-- a seat at rest: of which table it is, how many parts it has, its own entries, and whether it notes that the journal is full
pub record Seated (C R : Type 0) : Type 0 where
  pub table : TableId
  pub parts : ℕ
  pub own : List (Entry C R)
  pub full : Bool

-- a seat without its parts: of which table it is, its own entries, and whether it notes that the journal is full
pub record Known (C R : Type 0) : Type 0 where
  pub table : TableId
  pub own : List (Entry C R)
  pub full : Bool

abbrev pub locked : {O C R : Type 0} → TableId → Journaled O C R → Locked O C R
locked table start = record { table = table; start = start }

module _ {C R : Type 0} where
  abbrev pub seated : TableId → ℕ → List (Entry C R) → Bool → Seated C R
  seated table parts own full = record { table = table; parts = parts; own = own; full = full }

  abbrev pub known : TableId → List (Entry C R) → Bool → Known C R
  known table own full = record { table = table; own = own; full = full }

  abbrev pub known_by : Seated C R → Known C R
  known_by seat = known seat.table seat.own seat.full

-- The opening value stays, and the journal gained entries which are the known ones, each as often and no others; where it was
-- noted to be full, an entry has the last stamp.
pub record GainsJust {O C R : Type 0} (old new : Journaled O C R) (own : List (Entry C R)) (full : Bool) : Type 0 where
  pub gained : List (Entry C R)
  pub new_is : new ≡ grown old gained
  pub often : (h : Entry C R → ℕ) → weigh h own ≡ weigh h gained
  pub known : (entry : Entry C R) → Contains own entry → Contains gained entry
  pub others : (entry : Entry C R) → Contains gained entry → Contains own entry
  pub last : full ≡ true → HasLastStamp new.journal

-- two tables that were just made, each with its first seat
pub record AreFresh {O C R : Type 0} (first : Locked O C R) (first_seat : Seated C R) (second : Locked O C R) (second_seat : Seated C R) : Type 0 where
  pub first_is : first_seat ≡ seated first.table 1024 [] false
  pub second_is : second_seat ≡ seated second.table 1024 [] false
