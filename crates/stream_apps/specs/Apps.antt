-- An application by what it means.
use Rattle.std.specs.Prelude.{ℕ, Bool, Option, List}
use Rattle.sides.specs.declared.side.Side.{Side}
use Rattle.stream_apps.specs.declared.duty.AppDuty.{AppDuty}

pub record AppState : Type 0 where
  pub side : Side
  -- octets that it offers at most in a turn, and reads at least where they are there
  pub buffer : ℕ
  -- what of its file isn't written yet
  pub rest : List ℕ
  -- the application told that it writes no more
  pub closed : Bool
  -- the application was told that the stream ended, or was aborted
  pub told : Bool
  -- octets that it read in this turn
  pub count : ℕ
  -- rounds that end before the one in which it stops the connection; none where it never does, or did
  pub stops_in : Option ℕ
  -- what is still to be done in the turn
  pub agenda : List AppDuty
