-- The steps of a round, put in order list by list.
use Rattle.std.specs.Prelude.{ℕ, ◌≡◌, ◌<◌, ◌≤◌, List, [], ◌∷◌, ◌++◌, drop, map, length, get_or}
use Rattle.actor_desk.specs.declared.ask.Note.{Note}
use Rattle.stream_lanes.specs.Words.{Every}
use Rattle.world_laws.specs.Fine.{lists_of}
use Rattle.world_laws.specs.Worlds.{WorldState, greatest}
use Rattle.actor_desk.specs.Journals.{with_notes}

-- the notes that each list has besides so many, in order
abbrev pub since : List ℕ → List (List Note) → List Note
since [] lists = []
since (made ∷ more) [] = []
since (made ∷ more) (list ∷ lists) = with_notes (drop made list) (since more lists)

-- how many steps an actor had made
abbrev pub made_at : ℕ → List ℕ → ℕ
made_at actor made = get_or made actor 0

-- a list of notes up to a stamp, with more of them, all above it
pub record GrewAbove (top : ℕ) (before after : List Note) : Type 0 where
  pub more : List Note
  pub is : after ≡ before ++ more
  pub below : Every (λ note. note.stamp ≤ top) before
  pub above : Every (λ note. top < note.stamp) more

-- each of these lists of notes up to a stamp has more of them now, all above it
abbrev pub AllGrewAbove : ℕ → List (List Note) → List (List Note) → Type 0
AllGrewAbove top [] [] = Unit {0}
AllGrewAbove top [] (after ∷ lists) = ⊥
AllGrewAbove top (before ∷ lists) [] = ⊥
AllGrewAbove top (before ∷ lists) (after ∷ others) = GrewAbove top before after × AllGrewAbove top lists others

-- the lists of that world are those of this one, which have so many notes, and more above its greatest stamp
pub record IsSince (last : WorldState (List ℕ)) (made : List ℕ) (w : WorldState (List ℕ)) : Type 0 where
  pub made_is : made ≡ map length (lists_of last.crew)
  pub grew : AllGrewAbove (greatest 0 last.crew) (lists_of last.crew) (lists_of w.crew)
