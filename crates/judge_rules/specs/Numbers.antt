-- What data numbers mean beside an expected place (RFC 8684, sections 3.1 and 3.3.1).
use Rattle.std.specs.Prelude.{ℕ, ◌+◌, ◌%◌, ◌^◌, Option}
use Rattle.key_material.specs.KeyDigest.{idsn_of}
use Rattle.seq_units.specs.Number.{position_near, below}
use Rattle.mptcp_options.specs.declared.dss.DataNumber.{DataNumber}
use Rattle.mptcp_options.specs.declared.dss.DataNumber.TheVariants as wire
use Rattle.judge_rules.specs.declared.finding.Told.{Told}
use Rattle.judge_rules.specs.declared.finding.Told.TheVariants.{Whole, Low}

-- the number of place 0 of a side with this key
abbrev pub first_number : ℕ → ℕ
first_number key = (idsn_of key + 1) % 2 ^ 64

-- how it stood in its option
abbrev pub told_number : DataNumber → Told
told_number (wire.Whole number) = Whole number
told_number (wire.Low number) = Low number

-- the nearest place by the low half of a number, where it is one
abbrev pub low_place : ℕ → ℕ → ℕ → Option ℕ
low_place first expected number = below (2 ^ 62) (position_near (2 ^ 32) first expected number)

-- the nearest place, where it is one
abbrev pub place_near : ℕ → ℕ → DataNumber → Option ℕ
place_near first expected (wire.Whole number) = below (2 ^ 62) (position_near (2 ^ 64) first expected number)
place_near first expected (wire.Low number) = low_place (first % 2 ^ 32) expected number
