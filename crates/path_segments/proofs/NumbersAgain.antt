-- Numbers of positions and places, heard again.
use Rattle.std.proofs.Common.{◌≡◌, refl, sym, ◌∙◌, ap, ℕ, ◌+◌, ◌%◌, ◌<◌, ◌≤◌, ◌^◌, Bool, true, false, Option, Some, if◌then◌else◌, option_and_then, zero-add, arith}
use Rattle.std.specs.Prelude.{pos, ◌-ℤ◌}
use Rattle.std.proofs.lemmas.Int.{ints}
use Rattle.sides.specs.declared.side.Side.{Side}
use Rattle.seq_units.specs.Number.{number_of, below, IsNear, HasNumber, position_near}
use Rattle.seq_units.proofs.ReadBack.{position_near-number_of_32, position_near-number_of_64, widened-low_half}
use Rattle.mptcp_options.specs.declared.dss.DataNumber.TheVariants.{Whole, Low}
use Rattle.path_segments.specs.declared.spelling.Spelling.{Spelling}
use Rattle.path_segments.specs.Spelling.{numbers_of, subflow_number, whole_number, data_number}
use Rattle.path_segments.specs.Options.{relative_number}
use Rattle.path_segments.specs.Heard.{position_heard, place_behind, place_heard}
use Rattle.path_segments.specs.Laws.{IsPositionFresh, IsPlaceFresh}

pub position_again : (spelling : Spelling) (side : Side) (expected position : ℕ) → IsPositionFresh expected position
    → position_heard spelling side expected (subflow_number spelling side position) ≡ Some position
position_again spelling side expected position fresh =
    position_near-number_of_32 (numbers_of spelling side).initial.0 expected position fresh

pub relative_again : (expected position : ℕ) → IsPositionFresh expected position
    → position_near (2 ^ 32) 0 expected (relative_number position) ≡ Some position
relative_again expected position fresh =
    ap (position_near (2 ^ 32) 0 expected) (ap (λ (n : ℕ). n % 2 ^ 32) (sym (zero-add position)))
    ∙ position_near-number_of_32 0 expected position fresh

near_64 : (expected place : ℕ) → expected ≤ 2 ^ 62 + 2 ^ 20 → place + 1 < 2 ^ 62 → IsNear (2 ^ 64) (pos (place + 1) -ℤ pos (expected + 1))
near_64 expected place low below = record { behind = omega (arith, ints); ahead = omega (arith, ints) }

near_32 : (expected place : ℕ) → IsNear (2 ^ 32) (pos place -ℤ pos expected) → IsNear (2 ^ 32) (pos (place + 1) -ℤ pos (expected + 1))
near_32 expected place near = record { behind = omega (arith, ints, near.behind); ahead = omega (arith, ints, near.ahead) }

has_number : (base expected place : ℕ)
    → HasNumber (2 ^ 64) (number_of (2 ^ 64) base (expected + 1)) (pos (place + 1) -ℤ pos (expected + 1)) (number_of (2 ^ 64) base (place + 1))
has_number base expected place = grind (arith, ints)

abbrev place_before : Option ℕ → Option ℕ
place_before position = option_and_then place_behind (below (2 ^ 62) position)

place_before-next : (place : ℕ) → place + 1 < 2 ^ 62 → place_before (Some (place + 1)) ≡ Some place
place_before-next place low = grind arith

module _ (spelling : Spelling) (side : Side) (expected place : ℕ) (low : expected ≤ 2 ^ 62 + 2 ^ 20) where
  pub whole_again : place + 1 < 2 ^ 62 → place_heard spelling side expected (Whole (whole_number spelling side place)) ≡ Some place
  unfolding place_heard
  whole_again below =
      ap place_before (position_near-number_of_64 (numbers_of spelling side).idsn.0 (expected + 1) (place + 1) (near_64 expected place low below))
      ∙ place_before-next place below

  low_again : place + 1 < 2 ^ 62 → IsNear (2 ^ 32) (pos place -ℤ pos expected)
      → place_heard spelling side expected (Low (whole_number spelling side place % 2 ^ 32)) ≡ Some place
  unfolding place_heard
  low_again below near =
      let base = (numbers_of spelling side).idsn.0 in
      ap (λ (n : ℕ). place_before (position_near (2 ^ 64) base (expected + 1) n))
      (widened-low_half (number_of (2 ^ 64) base (expected + 1)) (number_of (2 ^ 64) base (place + 1)) (pos (place + 1) -ℤ pos (expected + 1))
      (near_32 expected place near) (has_number base expected place))
      ∙ ap place_before (position_near-number_of_64 base (expected + 1) (place + 1) (near_64 expected place low below))
      ∙ place_before-next place below

  by_width : (short : Bool) → IsPlaceFresh short expected place
      → place_heard spelling side expected (if short then Low (whole_number spelling side place % 2 ^ 32) else Whole (whole_number spelling side place)) ≡ Some place
  by_width true fresh = low_again fresh.below (fresh.near refl)
  by_width false fresh = whole_again fresh.below

  pub place_again : IsPlaceFresh spelling.short expected place → place_heard spelling side expected (data_number spelling side place) ≡ Some place
  place_again fresh = by_width spelling.short fresh
