-- Flags, numbers that may be absent, and tables, as the options of Multipath TCP have them.
use Rattle.std.specs.Prelude.{ℕ, ◌<◌, Bool, false, ◌||◌, ◌==◌, if◌then◌else◌, Option, Some, None, IfSome, List, [], ◌∷◌}
use Rattle.std.specs.Int.{Width, to_be_bytes}

-- what a flag adds to its octet
abbrev pub flag_if : Bool → ℕ → ℕ
flag_if set flag = if set then flag else 0

-- n is one of these
abbrev pub is_among : ℕ → List ℕ → Bool
is_among n [] = false
is_among n (m ∷ ms) = n == m || is_among n ms

-- the octets of a number that may be absent
abbrev pub optional : Width → Option ℕ → List ℕ
optional w None = []
optional w (Some n) = to_be_bytes w n

-- a number below a limit, where there is one
abbrev pub IsBelow : ℕ → Option ℕ → Type 0
IsBelow limit n = IfSome n (λ m. m < limit)
