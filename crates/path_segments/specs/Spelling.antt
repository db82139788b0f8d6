-- The numbers of what a side sends on a path.
use Rattle.std.specs.Prelude.{ℕ, ◌+◌, ◌%◌, ◌^◌, if◌then◌else◌}
use Rattle.sides.specs.declared.side.Side.{Side}
use Rattle.sides.specs.declared.side.Side.TheVariants.{A, B}
use Rattle.seq_units.specs.Number.{number_of}
use Rattle.mptcp_options.specs.declared.dss.DataNumber.{DataNumber}
use Rattle.mptcp_options.specs.declared.dss.DataNumber.TheVariants.{Whole, Low}
use Rattle.path_segments.specs.declared.spelling.EndNumbers.{EndNumbers}
use Rattle.path_segments.specs.declared.spelling.Spelling.{Spelling}

-- the initial numbers of a side
abbrev pub numbers_of : Spelling → Side → EndNumbers
numbers_of spelling A = spelling.a
numbers_of spelling B = spelling.b

-- the number of a position of a side's subflow
abbrev pub subflow_number : Spelling → Side → ℕ → ℕ
subflow_number spelling side position = number_of (2 ^ 32) (numbers_of spelling side).initial.0 position

-- the number of a place of a side's stream: that of the position behind it, since the initial number has no place
abbrev pub whole_number : Spelling → Side → ℕ → ℕ
whole_number spelling side place = number_of (2 ^ 64) (numbers_of spelling side).idsn.0 (place + 1)

-- the number of a place as it stands in a DSS: all of it, or the low half
abbrev pub data_number : Spelling → Side → ℕ → DataNumber
data_number spelling side place =
    if spelling.short then Low (whole_number spelling side place % 2 ^ 32) else Whole (whole_number spelling side place)
