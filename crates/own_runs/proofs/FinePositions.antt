-- The place that a data number means, and where a mapping ends.
use Rattle.std.proofs.Common.{◌≡◌, ap, ◌∙◌, ℕ, ◌+◌, ◌-◌, ◌%◌, ◌^◌, ◌<◌, ◌≤◌, pos, Bool, true, false, if◌then◌else◌, Option, Some, None, arith}
use Rattle.std.specs.Prelude.{◌-ℤ◌, nat_le, option_and_then}
use Rattle.std.proofs.lemmas.Bool.{le-leb, lt-ltb}
use Rattle.std.proofs.lemmas.Int.{ints}
use Rattle.seq_units.specs.Number.{IsNear, below, position_near}
use Rattle.seq_units.proofs.ReadBack.{position_near-number_of_32, position_near-number_of_64}
use Rattle.mptcp_options.specs.declared.dss.DataNumber.{DataNumber}
use Rattle.mptcp_options.specs.declared.dss.DataNumber.TheVariants.{Low, Whole}
use Rattle.mptcp_options.specs.Value.{OptionValue, Fail}
use Rattle.judge_rules.specs.Numbers.{place_near}
use Rattle.seen_streams.specs.Positions.{position_of}
use Rattle.seen_streams.specs.State.{LaneValue}

-- ---- the place that a number means

-- a number of a place, where place 0 has the number `first`
abbrev pub NumberIs : ℕ → DataNumber → ℕ → Type 0
NumberIs first (Whole number) place = number ≡ (first + place) % 2 ^ 64
NumberIs first (Low number) place = number ≡ (first + place) % 2 ^ 32

under : (o : Option ℕ) (place : ℕ) → o ≡ Some place → place < 2 ^ 62 → below (2 ^ 62) o ≡ Some place
under o place is few = ap (below (2 ^ 62)) is ∙ ap (λ (b : Bool). if b then Some place else None) (lt-ltb place (2 ^ 62) few)

-- below half the numbers each is near the other
pub close : (expected place : ℕ) → expected < 2 ^ 31 → place < 2 ^ 31 → IsNear (2 ^ 32) (pos place -ℤ pos expected)
close expected place few small = record { behind = omega (arith, ints, few, small); ahead = omega (arith, ints, few, small) }

close_64 : (expected place : ℕ) → expected < 2 ^ 31 → place < 2 ^ 31 → IsNear (2 ^ 64) (pos place -ℤ pos expected)
close_64 expected place few small = record { behind = omega (arith, ints, few, small); ahead = omega (arith, ints, few, small) }

pub near_so : (first expected place : ℕ) (number : DataNumber) → NumberIs first number place → expected < 2 ^ 31 → place < 2 ^ 31 → place_near first expected number ≡ Some place
near_so first expected place (Whole number) is few small =
    under (position_near (2 ^ 64) first expected number) place
    (ap (position_near (2 ^ 64) first expected) is ∙ position_near-number_of_64 first expected place (close_64 expected place few small)) (omega (arith, small))
near_so first expected place (Low number) is few small =
    under (position_near (2 ^ 32) (first % 2 ^ 32) expected number) place
    (ap (position_near (2 ^ 32) (first % 2 ^ 32) expected) (let same : number ≡ (first % 2 ^ 32 + place) % 2 ^ 32 = omega (arith, is) in same)
    ∙ position_near-number_of_32 (first % 2 ^ 32) expected place (close expected place few small)) (omega (arith, small))

-- so is a segment's position near those before it
pub position_so : (base : ℕ) (lane : LaneValue) (seq len at : ℕ) → seq ≡ (base + at) % 2 ^ 32 → lane.top < 2 ^ 31 → at + len < 2 ^ 31 → position_of base lane seq len ≡ Some at
position_so base lane seq len at is low short =
    ap (option_and_then (λ position. if nat_le (position + len) (2 ^ 61) then Some position else None))
    (ap (position_near (2 ^ 32) base lane.top) is ∙ position_near-number_of_32 base lane.top at (close lane.top at low (omega (arith, short))))
    ∙ ap (λ (b : Bool). if b then Some at else None) (le-leb (at + len) (2 ^ 61) (omega (arith, short)))

-- ---- a mapping

-- it ends within a stream of so many octets, and with the DATA_FIN at its end
abbrev pub EndsAt : ℕ → Bool → ℕ → ℕ → Type 0
EndsAt limit true place length = place + (length - 1) ≡ limit
EndsAt limit false place length = place + length ≤ limit

-- it isn't MP_FAIL
abbrev pub TellsNoFail : OptionValue → Type 0
TellsNoFail (Fail number) = ⊥
TellsNoFail _ = Unit {0}
