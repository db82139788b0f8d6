-- Of each place the octet that was held first.
use Rattle.std.specs.Prelude.{ℕ, zero, suc, ◌≡◌, ◌≢◌, ◌+◌, ◌-◌, ◌<◌, Bool, true, ◌&&◌, is_some, nat_le, nat_lt, if◌then◌else◌, Option, Some, None, option_map, IfSome, List, length, get_or}
use Rattle.first_runs.specs.declared.run.Run.{Run}
use Rattle.first_runs.specs.Runs.{Told, told_at}
use Rattle.seen_octets.specs.declared.octet.Octet.{Octet}

-- octets, and for runs of places where theirs stand among them
pub record Kept : Type 0 where
  pub octets : List ℕ
  pub runs : List Run

abbrev pub octet_told : List ℕ → Told → Octet
octet_told octets told = record { octet = get_or octets told.image 0; teller = told.teller }

-- the octet of a place, if one was held
abbrev pub octet_at : Kept → ℕ → Option Octet
octet_at kept place = option_map (octet_told kept.octets) (told_at kept.runs place)

-- a part that begins with a place has this one
abbrev pub has_place : ℕ → List ℕ → ℕ → Bool
has_place from part place = nat_le from place && nat_lt place (from + length part)

-- what octets from a place on tell of a place
abbrev pub octet_by : ℕ → List ℕ → ℕ → ℕ → Option Octet
octet_by from part teller place =
    if has_place from part place
    then Some (record { octet = get_or part (place - from) 0; teller = teller })
    else None

-- the octets of all places stand there
abbrev pub AreThere : List ℕ → List Run → Type 0
AreThere octets runs = (p : ℕ) → IfSome (told_at runs p) (λ told. told.image < length octets)

-- a count of places from one on have octets
abbrev pub all_held : (ℕ → Option Octet) → ℕ → ℕ → Bool
all_held octet from zero = true
all_held octet from (suc count) = is_some (octet from) && all_held octet (from + 1) count

-- a part has the octets of places from one on
abbrev pub IsPiece : (ℕ → Option Octet) → ℕ → List ℕ → Type 0
IsPiece octet from part = (i : ℕ) → i < length part → option_map (λ o. o.octet) (octet (from + i)) ≡ Some (get_or part i 0)

-- the first octets of two lists, so many, are the same
abbrev pub AreAlike : List ℕ → List ℕ → ℕ → Type 0
AreAlike one other count = (i : ℕ) → i < count → get_or one i 0 ≡ get_or other i 0

pub record IsFirstDifference (one other : List ℕ) (index : ℕ) : Type 0 where
  pub within : index < length one
  pub differs : get_or one index 0 ≢ get_or other index 0
  pub before : AreAlike one other index
