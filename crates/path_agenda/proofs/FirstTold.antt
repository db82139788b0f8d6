-- The first answer of many, one after the other.
use Rattle.std.proofs.Common.{◌≡◌, ◌∙◌, ap, ℕ, ◌+◌, ◌<◌, ◌≤◌, length, drop, get_or, List, [], ◌∷◌, Option, Some, None}
use Rattle.std.specs.Option.{option_or}
use Rattle.std.proofs.lemmas.List.{at_drop_more, drop_all}

module _ {X Y : Type 0} (all : List X → Option Y) (one : X → Option Y) (more : (x : X) (xs : List X) → all (x ∷ xs) ≡ option_or (one x) (all xs)) where
  -- the one at this index tells, and decides over all from it on
  pub told_here : (xs : List X) (i : ℕ) (d : X) (y : Y) → i < length xs → one (get_or xs i d) ≡ Some y → all (drop i xs) ≡ Some y
  told_here xs i d y within told =
      at_drop_more all xs i d within ∙ more (get_or xs i d) (drop (i + 1) xs) ∙ ap (λ (t : Option Y). option_or t (all (drop (i + 1) xs))) told

  -- a member that tells nothing leaves it to those behind it
  pub told_later : (xs : List X) (i : ℕ) (d : X) → i < length xs → one (get_or xs i d) ≡ None → all (drop i xs) ≡ all (drop (i + 1) xs)
  told_later xs i d within told =
      at_drop_more all xs i d within ∙ more (get_or xs i d) (drop (i + 1) xs) ∙ ap (λ (t : Option Y). option_or t (all (drop (i + 1) xs))) told

  pub told_by_none : (xs : List X) (i : ℕ) → length xs ≤ i → all (drop i xs) ≡ all []
  told_by_none xs i beyond = ap all (drop_all i xs beyond)
