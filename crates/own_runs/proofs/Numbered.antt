-- The data numbers of a connection of ours: place 0 of a side has the number behind that which its key gives.
use Rattle.std.proofs.Common.{◌≡◌, ℕ, ◌+◌, ◌%◌, ◌^◌, Bool, true, false, if◌then◌else◌, arith}
use Rattle.judge_rules.specs.Numbers.{first_number}
use Rattle.mptcp_options.specs.declared.dss.DataNumber.TheVariants.{Low, Whole}
use Rattle.path_segments.specs.Spelling.{data_number, whole_number}
use Rattle.path_segments.specs.declared.spelling.Spelling.{Spelling}
use Rattle.sides.specs.declared.side.Side.TheVariants.{A, B}
use Rattle.sides.specs.declared.side.Side.{Side}
use Rattle.world_laws.specs.Openings.{PathPlan, Start, path_begins}
use Rattle.own_runs.proofs.FinePositions.{NumberIs}
use Rattle.own_runs.proofs.Own.{own_key}
use Rattle.own_runs.proofs.Values.{drawn}

module _ (start : Start) (path : ℕ) (plan : PathPlan) where
  abbrev spelling : Spelling
  spelling = (path_begins start path plan).profile.spelling

  -- the number of place 0 of a side
  abbrev first : Side → ℕ
  first s = first_number (own_key (drawn start) s)

  pub whole_so : (s : Side) (place : ℕ) → whole_number spelling s place ≡ (first s + place) % 2 ^ 64
  whole_so A place = omega arith
  whole_so B place = omega arith

  low_so : (s : Side) (place : ℕ) → whole_number spelling s place % 2 ^ 32 ≡ (first s + place) % 2 ^ 32
  low_so A place = omega arith
  low_so B place = omega arith

  pub number_so : (s : Side) (place : ℕ) → NumberIs (first s) (data_number spelling s place) place
  number_so s place = by start.short
    where
      by : (b : Bool) → NumberIs (first s) (if b then Low (whole_number spelling s place % 2 ^ 32) else Whole (whole_number spelling s place)) place
      by true = low_so s place
      by false = whole_so s place

  pub first_low : (s : Side) → first s ≡ (first s + 0) % 2 ^ 64
  first_low A = omega arith
  first_low B = omega arith
