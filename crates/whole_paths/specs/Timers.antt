-- How long a timer waits (RFC 6298, section 2).
use Rattle.std.specs.Prelude.{ℕ, ◌+◌, ◌≡◌, ◌<◌, ◌≤◌, Some, IfSome, slice_get}
use Rattle.rtt_timer.specs.Estimates.{IsWithinBounds}
use Rattle.loss_recovery.specs.declared.timers.Timing.{Timing}
use Rattle.path_core.specs.State.{PathState}
use Rattle.world_laws.specs.Members.{HoldsOfKind}
use Rattle.world_laws.specs.Actors.{ActorCrew}
use Rattle.world_laws.specs.Worlds.{WorldState}

-- a timer that runs does so for a minute from now at most, and the next one for a second at least and a minute at most
pub record IsNear (now : ℕ) (t : Timing) : Type 0 where
  pub timer : IfSome t.timer (λ tick. tick ≤ now + 60000)
  pub timeout : IsWithinBounds t.rtt.rto

-- the timers of both ends are near, and the path's clock lies before the round's end
pub record TimersAreNear {C : Type 0} (p : PathState C) : Type 0 where
  pub clock : p.clock < p.until
  pub a : IsNear p.clock p.a.tcp.timing
  pub b : IsNear p.clock p.b.tcp.timing

-- on each path
pub record TimersRunOut {C : Type 0} (w : WorldState C) : Type 0 where
  pub each : (actor : ℕ) (c : ActorCrew C) → slice_get w.crew actor ≡ Some c → HoldsOfKind (λ app. Unit {0}) TimersAreNear c.member
