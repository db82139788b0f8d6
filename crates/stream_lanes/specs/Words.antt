-- Words on lists, whose items are numbered. Each is a record, so that a lemma finds the predicate and the list by itself.
use Rattle.std.specs.Prelude.{ℕ, ◌≡◌, ◌+◌, List, Option, Some, slice_get}

-- P holds of each item
pub record Every {X : Type 0} (P : X → Type 0) (xs : List X) : Type 0 where
  pub each : (i : ℕ) (x : X) → slice_get xs i ≡ Some x → P x

-- P holds of each item and its number, where the first item has the number `first`
pub record From {X : Type 0} (P : ℕ → X → Type 0) (first : ℕ) (xs : List X) : Type 0 where
  pub each : (i n : ℕ) (x : X) → n ≡ first + i → slice_get xs i ≡ Some x → P n x

-- P holds of each place that is filled and what is there, where the first place is `first`
pub record Cells {X : Type 0} (P : ℕ → X → Type 0) (first : ℕ) (places : List (Option X)) : Type 0 where
  pub each : (i n : ℕ) (x : X) → n ≡ first + i → slice_get places i ≡ Some (Some x) → P n x

-- P holds of one of the items
pub record Has {X : Type 0} (P : X → Type 0) (xs : List X) : Type 0 where
  pub at : ℕ
  pub item : X
  pub there : slice_get xs at ≡ Some item
  pub holds : P item
