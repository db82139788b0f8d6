-- What is heard and lent, by its value.
use Rattle.std.specs.Prelude.{◌+◌, ◌^◌, ◌<◌, ◌≤◌}
use Rattle.path_segments.specs.declared.expected.Expected.{Expected}
use Rattle.path_segments.specs.declared.position.HeardPosition.{HeardPosition}
use Rattle.path_segments.specs.declared.position.HeardPosition.TheVariants.{At, Nowhere}

-- what is expected is at most a position or a place, with room for a buffer past the last one
pub record IsExpected (expected : Expected) : Type 0 where
  pub edge : expected.edge ≤ 2 ^ 62 + 2 ^ 20
  pub unacknowledged : expected.unacknowledged ≤ 2 ^ 62 + 2 ^ 20
  pub told : expected.told ≤ 2 ^ 62 + 2 ^ 20
  pub place : expected.place ≤ 2 ^ 62 + 2 ^ 20

-- a position beside one of these is below 2^63
abbrev pub IsLow : HeardPosition → Type 0
IsLow (At position) = position < 2 ^ 63
IsLow (Nowhere number) = Unit {0}
