-- A round over six books, each in a table for as long as the round takes.
use Rattle.std.specs.Prelude.{ℕ, suc, ◌≡◌, ◌-◌, ◌^◌, ◌<◌, ◌≤◌, ◌↔◌, true, false, List, [], ◌∷◌, length, map, Option, None, Result, Err, All}
use Rattle.std.specs.List.{Contains, list_any, slice_index_or}
use Rattle.stamped_book.specs.declared.stamped.Refusal.{Refusal}
use Rattle.stamped_book.specs.declared.stamped.Refusal.TheVariants.{Memory, Stamps}
use Rattle.actor_desk.specs.declared.actor.Crew.{Crew}
use Rattle.actor_desk.specs.declared.ask.Ask.{Ask}
use Rattle.actor_desk.specs.declared.ask.Note.{Note}
use Rattle.actor_desk.specs.declared.ask.Reply.{Reply}
use Rattle.actor_desk.specs.Books.{StampedBooks}
use Rattle.actor_desk.specs.Noted.{notes_in}
use Rattle.actor_turn.specs.Extending.{BooksExtend}
use Rattle.actor_turn.specs.Turns.{Turned, is_refused}
use Rattle.ruled_desk.specs.declared.rider.Rider.{Rider}
use Rattle.ruled_desk.specs.Gaining.{GainAlike, by_book, list_at}

-- an entry of one of the journals has the last stamp that there is, 2^62 - 1
pub record OneIsFull (books : StampedBooks) : Type 0 where
  pub book : ℕ
  pub note : Note
  pub stands : Contains (list_at (by_book (notes_in books)) book) note
  pub last : note.stamp ≡ 4611686018427387903

module _ {A : Type 0} where
  -- each actor has its place as its number, the first one this number
  abbrev pub AreActors : ℕ → List (Crew A) → Type 0
  AreActors first [] = Unit {0}
  AreActors first (c ∷ crew) = (c.pass.actor ≡ first) × AreActors (suc first) crew

  abbrev pub without_pass : Crew A → Rider A
  without_pass c = record { crew = c; pass = None }

  abbrev pub crew_of : List (Rider A) → List (Crew A)
  crew_of riders = map (λ rider. rider.crew) riders

  -- one of the actors knows the last stamp
  pub record OneKnowsLast (crew : List (Crew A)) : Type 0 where
    pub actor : ℕ
    pub within : actor < length crew
    pub last : (d : Crew A) → 2 ^ 62 - 1 ≤ (slice_index_or crew actor d).pass.stamp

  -- each actor made its turn, to its end or to a refusal
  abbrev pub AllTurned : (A → Option Ask) → (Reply → A → A) → List (Crew A) → List (Crew A) → Type 0
  AllTurned asks takes old new = (i : ℕ) (d : Crew A) → i < length old → Turned asks takes (slice_index_or old i d) (slice_index_or new i d)

  -- The turns were made, and the round ended as they did: want of memory comes before want of stamps.
  pub record EndsAsTurns (asks : A → Option Ask) (takes : Reply → A → A) (old new : List (Crew A)) {T : Type 0} (told : Result T Refusal) : Type 0 where
    pub turned : AllTurned asks takes old new
    pub memory : (told ≡ Err Memory) ↔ (list_any (is_refused Memory) new ≡ true)
    pub stamps : (told ≡ Err Stamps) ↔ ((list_any (is_refused Memory) new ≡ false) × (list_any (is_refused Stamps) new ≡ true))

  -- no turn was made, for there was no memory for the tables
  pub record NoTurnMade (old new : List (Crew A)) (before after : StampedBooks) {T : Type 0} (told : Result T Refusal) : Type 0 where
    pub memory : told ≡ Err Memory
    pub crew : new ≡ old
    pub books : after ≡ before

  -- Each actor made its turn to its end, and the journals gained just the steps at books that the lists gained.
  pub record IsWholeRound (asks : A → Option Ask) (takes : Reply → A → A) (old new : List (Crew A)) (before after : StampedBooks) : Type 0 where
    pub many : length new ≡ length old
    pub turned : AllTurned asks takes old new
    pub done : All (λ c. c.refused ≡ None) new
    pub extend : BooksExtend before after
    pub alike : GainAlike (map (λ c. c.list) old) (map (λ c. c.list) new) (by_book (notes_in before)) (by_book (notes_in after))
