-- Words on choices and lists that the rules of a path share.
use Rattle.std.specs.Prelude.{ℕ, zero, suc, Bool, true, false, Option, Some, None, List, [], ◌∷◌}
use Rattle.sides.specs.declared.side.Side.{Side}
use Rattle.sides.specs.declared.side.Side.TheVariants.{A, B}

abbrev pub is_side_a : Side → Bool
is_side_a A = true
is_side_a B = false

-- the item of this number, the first being 0
abbrev pub item_at : {X : Type 0} → ℕ → List X → Option X
item_at n [] = None
item_at zero (x ∷ xs) = Some x
item_at (suc n) (x ∷ xs) = item_at n xs

-- the later one, where it tells something
abbrev pub told_last : {X : Type 0} → Option X → Option X → Option X
told_last None before = before
told_last (Some x) before = Some x
