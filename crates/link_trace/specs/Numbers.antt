-- Numbers as a picture tells them, and how far apart those of an axis stand.
use Rattle.std.specs.Prelude.{ℕ, ◌/◌, ◌%◌, nat_lt, nat_le, if◌then◌else◌, List, [], ◌∷◌, ◌++◌, codes}
use Rattle.std.specs.Fmt.{decimal}

-- a comma and the last three digits
abbrev pub three_digits : ℕ → List ℕ
three_digits n = codes "," ++ (decimal (n / 100 % 10) ++ (decimal (n / 10 % 10) ++ decimal (n % 10)))

-- in decimal, thousands parted by commas: below 10^6, below 10^9, below 10^12
abbrev pub thousands : ℕ → List ℕ
thousands n = if nat_lt n 1000 then decimal n else decimal (n / 1000) ++ three_digits n

abbrev pub millions : ℕ → List ℕ
millions n = if nat_lt n 1000 then decimal n else thousands (n / 1000) ++ three_digits n

unfoldable pub grouped : ℕ → List ℕ
grouped n = if nat_lt n 1000 then decimal n else millions (n / 1000) ++ three_digits n

-- ---- axes

-- the first one that isn't below this number
abbrev pub first_from : ℕ → List ℕ → ℕ
first_from least [] = 10000000000
first_from least (step ∷ steps) = if nat_le least step then step else first_from least steps

-- the numbers of an axis are 1, 2 or 5 apart, or ten times that, and so on: a fifth of its range or more
abbrev pub step_of : ℕ → ℕ
step_of range =
    first_from (range / 5) (1 ∷ 2 ∷ 5 ∷ 10 ∷ 20 ∷ 50 ∷ 100 ∷ 200 ∷ 500 ∷ 1000 ∷ 2000 ∷ 5000 ∷ 10000 ∷ 20000 ∷ 50000 ∷ 100000 ∷ 200000
    ∷ 500000 ∷ 1000000 ∷ 2000000 ∷ 5000000 ∷ 10000000 ∷ 20000000 ∷ 50000000 ∷ 100000000 ∷ 200000000 ∷ 500000000 ∷ 1000000000 ∷ [])
