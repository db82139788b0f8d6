-- What lists and journals gain, and that it is the same.
use Rattle.std.specs.Prelude.{ℕ, ◌≡◌, ◌<◌, ◌++◌, false, List, [], ◌∷◌, length}
use Rattle.std.specs.List.{Contains, slice_index_or}
use Rattle.actor_desk.specs.declared.ask.Note.{Note}
use Rattle.actor_desk.specs.Journals.{ArePaired, is_local}
use Rattle.actor_desk.specs.Noted.{BookNotes}

-- the notes at each of the six books
abbrev pub by_book : BookNotes → List (List Note)
by_book notes =
    notes.send_a ∷ notes.send_b ∷ notes.reassembly_a ∷ notes.reassembly_b ∷ notes.control_a ∷ notes.control_b ∷ []

-- the list of this place; nothing where there is none
abbrev pub list_at : List (List Note) → ℕ → List Note
list_at lists place = slice_index_or lists place []

-- the note is one of those that stand behind the old ones
pub record IsGained (old new : List Note) (note : Note) : Type 0 where
  pub gained : List Note
  pub new_is : new ≡ old ++ gained
  pub stands : Contains gained note

-- the old notes stand, and others behind them
pub record GoesOn (old new : List Note) : Type 0 where
  pub gained : List Note
  pub new_is : new ≡ old ++ gained

-- Lists and journals go on. Each note that a journal gained is one that a list gained, and each note at a
-- book that a list gained is one that a journal gained.
pub record GainAlike (lists lists_after journals journals_after : List (List Note)) : Type 0 where
  pub many : length lists_after ≡ length lists
  pub books : length journals_after ≡ length journals
  pub lists_go_on : (actor : ℕ) → actor < length lists → GoesOn (list_at lists actor) (list_at lists_after actor)
  pub journals_go_on : (book : ℕ) → book < length journals → GoesOn (list_at journals book) (list_at journals_after book)
  pub entries : (book : ℕ) (note : Note) → book < length journals → IsGained (list_at journals book) (list_at journals_after book) note
      → (actor : ℕ) × (actor < length lists) × IsGained (list_at lists actor) (list_at lists_after actor) note
  pub notes : (actor : ℕ) (note : Note) → actor < length lists → IsGained (list_at lists actor) (list_at lists_after actor) note
      → is_local note.ask ≡ false
      → (book : ℕ) × (book < length journals) × IsGained (list_at journals book) (list_at journals_after book) note

-- what gains alike stays paired
abbrev pub StaysPaired : Type 0
StaysPaired =
    (lists lists_after journals journals_after : List (List Note)) → GainAlike lists lists_after journals journals_after
    → ArePaired 0 lists journals → ArePaired 0 lists_after journals_after
