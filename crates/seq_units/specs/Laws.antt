-- The laws of numbers, for a number space of 32 or 64 bits.
use Rattle.std.specs.Prelude.{◌≡◌, ℕ, ◌<◌, ◌%◌, ◌^◌, Some, ℤ, pos, ◌-ℤ◌}
use Rattle.seq_units.specs.Number.{number_of, HasNumber, IsNear, IsMeant, position_near}
use Rattle.seq_units.specs.Widening.{widened}

-- beside an expected position each number means a position
abbrev pub EachNumberMeansAPosition : ℕ → Type 0
EachNumberMeansAPosition space =
    (base expected number : ℕ) → number < space → (p : ℤ) × IsMeant space base expected number p

-- beside an expected position no number means two positions
abbrev pub NoNumberMeansTwoPositions : ℕ → Type 0
NoNumberMeansTwoPositions space = (base expected number : ℕ) (p q : ℤ)
    → IsMeant space base expected number p → IsMeant space base expected number q → p ≡ q

-- the number of a position, read beside an expected position near it, is that position
abbrev pub NumberIsReadBack : ℕ → Type 0
NumberIsReadBack space = (base expected p : ℕ) → IsNear space (pos p -ℤ pos expected)
    → position_near space base expected (number_of space base p) ≡ Some p

-- the low half of a number, widened beside an expected number near it, is that number
abbrev pub LowHalfIsWidenedBack : Type 0
LowHalfIsWidenedBack = (expected wide : ℕ) (distance : ℤ) → IsNear (2 ^ 32) distance
    → HasNumber (2 ^ 64) expected distance wide → widened expected (wide % 2 ^ 32) ≡ wide
