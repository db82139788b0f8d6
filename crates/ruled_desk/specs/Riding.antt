-- A rider's turn: what its actor did, and what its pass notes of it.
use Rattle.std.specs.Prelude.{ℕ, suc, ◌≡◌, ◌-◌, ◌^◌, ◌<◌, ◌≤◌, ◌⊎◌, Bool, true, List, [], ◌∷◌, length, Option, Some, None, MatchOption}
use Rattle.std.specs.List.{slice_index_or}
use Rattle.stamped_book.specs.declared.stamped.Refusal.{Refusal}
use Rattle.stamped_book.specs.declared.stamped.Refusal.TheVariants.{Stamps}
use Rattle.actor_desk.specs.declared.ask.Ask.{Ask}
use Rattle.actor_desk.specs.declared.ask.Reply.{Reply}
use Rattle.actor_desk.specs.Noted.{BookNotes}
use Rattle.actor_turn.specs.Turns.{Turned, NotesOneMore, is_refused, noted_all}
use Rattle.ruled_desk.specs.SixSeats.{SixLocked, SixKnown, Passed, Rooted, AreOf, all_known, nothing_known, notes_by, notes_full}
use Rattle.ruled_desk.specs.declared.rider.Rider.{Rider}

-- there is a pass of this actor, which was split from the root of this desk
abbrev pub IsPassFor : SixLocked → ℕ → Option Passed → Type 0
IsPassFor desk actor None = ⊥
IsPassFor desk actor (Some pass) = (pass.actor ≡ actor) × AreOf desk pass.books

-- the entries of the pass, as notes
abbrev pub notes_held : Option Passed → Option BookNotes
notes_held None = None
notes_held (Some pass) = Some (notes_by pass.books)

-- the pass notes that a journal is full
abbrev pub NotesFull : Option Passed → Type 0
NotesFull None = ⊥
NotesFull (Some pass) = (ask : Ask) × (notes_full ask pass.books ≡ true)

-- what is known, and then what a pass notes
abbrev pub known_with : SixKnown → Option Passed → SixKnown
known_with books None = books
known_with books (Some pass) = all_known books pass.books

-- the root with what a pass notes
abbrev pub joined_with : Rooted → Option Passed → Rooted
joined_with root pass = record root { books = known_with root.books pass }

module _ {A : Type 0} where
  -- the rider has a pass of its own actor
  abbrev pub HasPass : SixLocked → Rider A → Type 0
  HasPass desk rider = IsPassFor desk rider.crew.pass.actor rider.pass

  -- each rider's actor has its place as its number, the first one this number
  abbrev pub AreNumbered : ℕ → List (Rider A) → Type 0
  AreNumbered first [] = Unit {0}
  AreNumbered first (rider ∷ riders) = (rider.crew.pass.actor ≡ first) × AreNumbered (suc first) riders

  -- with a new pass of its actor
  abbrev pub given_pass : SixLocked → Rider A → Rider A
  given_pass desk rider = record rider { pass = Some (record { actor = rider.crew.pass.actor; books = nothing_known desk }) }

  abbrev pub pass_taken : Rider A → Rider A
  pass_taken rider = record rider { pass = None }

  -- what is known, and then what each rider's pass notes
  abbrev pub all_joined : SixKnown → List (Rider A) → SixKnown
  all_joined books [] = books
  all_joined books (rider ∷ riders) = all_joined (known_with books rider.pass) riders

  abbrev pub is_rider_refused : Refusal → Rider A → Bool
  is_rider_refused kind rider = is_refused kind rider.crew

  -- no stamp is left: the actor's pass stands at the last one, or its pass at the desk notes a full journal
  abbrev pub IsUsedUp : Rider A → Type 0
  IsUsedUp rider = (2 ^ 62 - 1 ≤ rider.crew.pass.stamp) ⊎ NotesFull rider.pass

  -- no stamp is left to one of the riders
  abbrev pub OneIsUsedUp : List (Rider A) → Type 0
  OneIsUsedUp riders = (i : ℕ) × (i < length riders) × ((d : Rider A) → IsUsedUp (slice_index_or riders i d))

  -- A turn was made. What the pass notes grew by the steps at books that the actor's list gained; where the turn was refused,
  -- by at most one more.
  pub record Rode (asks : A → Option Ask) (takes : Reply → A → A) (desk : SixLocked) (old new : Rider A) : Type 0 where
    pub has : HasPass desk new
    pub turned : Turned asks takes old.crew new.crew
    pub noted : MatchOption new.crew.refused (notes_held new.pass ≡ noted_all (notes_held old.pass) turned.notes)
        (λ _. NotesOneMore (noted_all (notes_held old.pass) turned.notes) (notes_held new.pass))
    pub used_up : new.crew.refused ≡ Some Stamps → IsUsedUp new
