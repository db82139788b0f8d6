-- A book in the slot of a table with three words: the next ticket, the ticket that is served, and how many entries were added.
use Rattle.std.specs.Prelude.{◌≡◌, ℕ, ◌+◌, ◌-◌, ◌%◌, ◌^◌, ◌≤◌, ◌==◌, ◌||◌, List, [], ◌∷◌, ◌++◌, length, Bool, true, false, Option, Some, None, MatchBool}
use mathlib.Core.Option as plain
use lib.ListN.{get_elem?}
use Rattle.atomic_table.specs.Table.{State, Step, Me}
use Rattle.stamped_book.specs.Journal.{Journaled}
use Rattle.stamped_book.specs.declared.stamped.Entry.{Entry}
use Rattle.ruled_desk.specs.declared.rule.View.{View}
use Rattle.ruled_desk.specs.Growing.{HasLastStamp, grown}
use Rattle.ruled_desk.specs.Weighing.{weigh, span, bit}

module _ {B E : Type 0} where
  abbrev pub view : ℕ → List ℕ → List B → List E → Bool → View B E
  view parts tickets took own full = record { parts = parts; tickets = tickets; took = took; own = own; full = full }

  -- a seat that neither waits nor has the book
  pub record IsAtRest (v : View B E) : Type 0 where
    pub tickets : v.tickets ≡ []
    pub took : v.took ≡ []

module _ {O C R : Type 0} where
  -- the slot, while the book is out and while it is at home
  abbrev pub homed : Bool → Journaled O C R → List (plain.Option (Option (Journaled O C R)))
  homed true book = plain.none ∷ []
  homed false book = plain.some (Some book) ∷ []

  -- What one seat's view says is so: who has the book has the one that was opened with all entries that were added, and is the
  -- seat that is served; a seat that was joined to another has nothing; and a journal that was seen full is full.
  pub record Fits (start : Journaled O C R) (served : ℕ) (log : List (Entry C R)) (seat : ℕ) (v : View (Journaled O C R) (Entry C R)) : Type 0 where
    pub room : length v.tickets ≤ v.parts
    pub holder : (book : Journaled O C R) → v.took ≡ book ∷ [] → (seat ≡ served) × (book ≡ grown start log)
    pub ended : v.parts ≡ 0 → (v.own ≡ []) × (v.took ≡ [])
    pub full : v.full ≡ true → HasLastStamp (start.journal ++ log)

  -- The rule. `count` seats wait, with the tickets from `first` on, each once; while the book is out, the ticket that is served is
  -- the one before these. `log` are the entries that were added since the book was put here, and they are the seats' own entries,
  -- each as often.
  pub record IsRuled (start : Journaled O C R) (s : State (Option (Journaled O C R)) (View (Journaled O C R) (Entry C R))) : Type 0 where
    pub first : ℕ
    pub count : ℕ
    pub serving : ℕ
    pub out : Bool
    pub served : ℕ
    pub log : List (Entry C R)
    pub words : s.words ≡ (first + count) % 2 ^ 64 ∷ serving ∷ length log % 2 ^ 64 ∷ []
    pub turn : (serving + bit out) % 2 ^ 64 ≡ first % 2 ^ 64
    pub homes : s.homes ≡ homed out (grown start log)
    pub parts : weigh (λ v. v.parts) s.views ≡ 1024
    pub tickets : (h : ℕ → ℕ) → weigh (λ v. weigh h v.tickets) s.views ≡ span h first count
    pub holders : weigh (λ v. length v.took) s.views ≡ bit out
    pub own : (h : Entry C R → ℕ) → weigh (λ v. weigh h v.own) s.views ≡ weigh h log
    pub fits : (seat : ℕ) (v : View (Journaled O C R) (Entry C R)) → get_elem? s.views seat ≡ plain.some v → Fits start served log seat v

-- ---- the steps

module _ {B E : Type 0} where
  -- the view that opens the table
  abbrev pub first_view : View B E
  first_view = view 1024 [] [] [] false

  -- the seat gave one part to a new one
  abbrev pub without_part : View B E → View B E
  without_part v = view (v.parts - 1) v.tickets v.took v.own v.full

  -- a new seat has one part
  abbrev pub newcomer : View B E
  newcomer = view 1 [] [] [] false

  -- the second one's entries and notes are the first one's
  abbrev pub joined : View B E → View B E → View B E
  joined v w = view (v.parts + w.parts) v.tickets v.took (v.own ++ w.own) (v.full || w.full)

  -- a seat that was joined to another has nothing
  abbrev pub spent : View B E
  spent = view 0 [] [] [] false

  -- the seat waits with this ticket
  abbrev pub waits : ℕ → View B E → View B E
  waits ticket v = view v.parts (ticket ∷ []) v.took v.own v.full

  -- the seat is served: it has this book, and no ticket any more
  abbrev pub takes_turn : B → View B E → View B E
  takes_turn book v = view v.parts [] (book ∷ []) v.own v.full

  -- the seat added this entry, and has the book with it
  abbrev pub adds : B → E → View B E → View B E
  adds book entry v = view v.parts v.tickets (book ∷ []) (v.own ++ entry ∷ []) v.full

  -- the seat has the book no more; a full journal may be noted
  abbrev pub serves : Bool → View B E → View B E
  serves full v = view v.parts v.tickets [] v.own (full || v.full)

  -- a ticket was drawn, the number that was found
  abbrev pub IsDrawn : Me (Option B) (View B E) → ℕ → Me (Option B) (View B E) → Type 0
  IsDrawn me found after = (ticket : ℕ) × (found ≡ ticket % 2 ^ 64) × (after ≡ (waits ticket me.0, me.1))

  -- the seat has taken the book out of the slot
  abbrev pub HasTaken : Me (Option B) (View B E) → Me (Option B) (View B E) → Type 0
  HasTaken me after = (book : B) × (after ≡ (takes_turn book me.0, (0, Some book) ∷ []))

  -- where the number that is served is the seat's ticket, it has the book
  abbrev pub IsLooked : Me (Option B) (View B E) → ℕ → Me (Option B) (View B E) → Type 0
  IsLooked me found after = (ticket : ℕ) → me.0.tickets ≡ ticket ∷ [] → MatchBool (found == ticket % 2 ^ 64) (HasTaken me after) (after ≡ me)

  -- the book is at home, and the next ticket is served
  abbrev pub IsServed : Bool → Me (Option B) (View B E) → Me (Option B) (View B E) → Type 0
  IsServed full me after = after ≡ (serves full me.0, [])

  -- of any step at the table: a ticket was drawn
  abbrev pub Draws : Step (Option B) → Me (Option B) (View B E) → ℕ → Me (Option B) (View B E) → Type 0
  Draws step me found after = IsDrawn me found after

  -- of any step at the table: it was looked whether the seat's ticket is served
  abbrev pub Looks : Step (Option B) → Me (Option B) (View B E) → ℕ → Me (Option B) (View B E) → Type 0
  Looks step me found after = IsLooked me found after

  -- of any step at the table: the next ticket is served
  abbrev pub Serves : Bool → Step (Option B) → Me (Option B) (View B E) → ℕ → Me (Option B) (View B E) → Type 0
  Serves full step me found after = IsServed full me after

  -- ---- where a seat stands in a call

  -- the seat waits with the ticket that this number shows
  pub record IsWaiting (me : Me (Option B) (View B E)) (shown : ℕ) : Type 0 where
    pub ticket : ℕ
    pub drawn : shown ≡ ticket % 2 ^ 64
    pub waits : me.0.tickets ≡ ticket ∷ []
    pub took : me.0.took ≡ []
    pub holds : me.1 ≡ []

  -- the seat has this book, and the slot is empty
  pub record HasTurn (me : Me (Option B) (View B E)) (book : B) : Type 0 where
    pub took : me.0.took ≡ book ∷ []
    pub slot : me.1 ≡ (0, None) ∷ []

  -- the seat has had this book since it took the slot, which is empty now
  abbrev pub IsOut : B → Me (Option B) (View B E) → Me (Option B) (View B E) → Type 0
  IsOut book me after = after ≡ (takes_turn book me.0, (0, None) ∷ [])

module _ {O C R : Type 0} where
  -- the entry that the book has more than when it was taken is the seat's own
  abbrev pub IsAdded : Me (Option (Journaled O C R)) (View (Journaled O C R) (Entry C R)) → Me (Option (Journaled O C R)) (View (Journaled O C R) (Entry C R)) → Type 0
  IsAdded me after =
      (book : Journaled O C R) (entry : Entry C R) → me.0.took ≡ book ∷ [] → me.1 ≡ (0, Some (grown book (entry ∷ []))) ∷ []
      → after ≡ (adds (grown book (entry ∷ [])) entry me.0, me.1)

  -- of any step at the table: an entry was added
  abbrev pub Adds : Step (Option (Journaled O C R)) → Me (Option (Journaled O C R)) (View (Journaled O C R) (Entry C R)) → ℕ
      → Me (Option (Journaled O C R)) (View (Journaled O C R) (Entry C R)) → Type 0
  Adds step me found after = IsAdded me after

  -- the seat has this book and has put it into the slot; where its journal is to be noted as full, it is full
  pub record IsBack (full : Bool) (me : Me (Option (Journaled O C R)) (View (Journaled O C R) (Entry C R))) : Type 0 where
    pub book : Journaled O C R
    pub took : me.0.took ≡ book ∷ []
    pub slot : me.1 ≡ (0, Some book) ∷ []
    pub last : full ≡ true → HasLastStamp book.journal

  -- the book has one entry more than when it was taken
  pub record HasOneMore (me : Me (Option (Journaled O C R)) (View (Journaled O C R) (Entry C R))) (now : Journaled O C R) : Type 0 where
    pub book : Journaled O C R
    pub entry : Entry C R
    pub turn : HasTurn me book
    pub grew : now ≡ grown book (entry ∷ [])

  -- the seat is at rest again, with some entries more of its own
  abbrev pub IsDone : List (Entry C R) → Bool → Me (Option (Journaled O C R)) (View (Journaled O C R) (Entry C R))
      → Me (Option (Journaled O C R)) (View (Journaled O C R) (Entry C R)) → Type 0
  IsDone more full me after = after ≡ (view me.0.parts me.0.tickets [] (me.0.own ++ more) (full || me.0.full), [])
