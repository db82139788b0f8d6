-- Exact fractions of natural numbers, compared by multiplying crosswise.
use Rattle.std.specs.Prelude.{ℕ, ◌+◌, ◌*◌, ◌/◌, ◌<◌, ◌≤◌, Bool, nat_lt, ◌==◌, if◌then◌else◌}

pub record Fraction : Type 0 where
  pub numerator : ℕ
  pub denominator : ℕ

-- n
abbrev pub whole : ℕ → Fraction
whole n = record { numerator = n; denominator = 1 }

-- n / d
abbrev pub ratio : ℕ → ℕ → Fraction
ratio n d = record { numerator = n; denominator = d }

-- x + y
abbrev pub plus : Fraction → Fraction → Fraction
plus x y = ratio (x.numerator * y.denominator + y.numerator * x.denominator) (x.denominator * y.denominator)

-- x * y
abbrev pub times : Fraction → Fraction → Fraction
times x y = ratio (x.numerator * y.numerator) (x.denominator * y.denominator)

-- x / y
abbrev pub over : Fraction → Fraction → Fraction
over x y = ratio (x.numerator * y.denominator) (x.denominator * y.numerator)

-- x ≤ y
abbrev pub IsAtMost : Fraction → Fraction → Type 0
IsAtMost x y = x.numerator * y.denominator ≤ y.numerator * x.denominator

-- x < y
abbrev pub IsBelow : Fraction → Fraction → Type 0
IsBelow x y = x.numerator * y.denominator < y.numerator * x.denominator

-- whether x < y
abbrev pub is_below : Fraction → Fraction → Bool
is_below x y = nat_lt (x.numerator * y.denominator) (y.numerator * x.denominator)

-- whether x and y are as great
abbrev pub is_level : Fraction → Fraction → Bool
is_level x y = x.numerator * y.denominator == y.numerator * x.denominator

-- the greater of two
abbrev pub greater : Fraction → Fraction → Fraction
greater x y = if is_below x y then y else x

-- the lesser of two
abbrev pub lesser : Fraction → Fraction → Fraction
lesser x y = if is_below y x then y else x

-- the greatest whole number that is not above x
abbrev pub floor_of : Fraction → ℕ
floor_of x = x.numerator / x.denominator
