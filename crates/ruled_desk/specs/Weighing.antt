-- Sums over lists, by which two lists are compared: they have the same members, each as often, where they weigh the
-- same however their members are weighed.
use Rattle.std.specs.Prelude.{ℕ, zero, suc, ◌+◌, List, [], ◌∷◌, Bool, true, false}

-- the weights of all members, added up
abbrev pub weigh : {X : Type 0} → (X → ℕ) → List X → ℕ
weigh h [] = 0
weigh h (x ∷ xs) = h x + weigh h xs

-- the weights of so many numbers, from the first one on
abbrev pub span : (ℕ → ℕ) → ℕ → ℕ → ℕ
span h first zero = 0
span h first (suc count) = h first + span h (suc first) count

abbrev pub bit : Bool → ℕ
bit true = 1
bit false = 0
