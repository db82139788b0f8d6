-- How long a timer runs from when it is set: a second at least (RFC 6298, section 2, rule 2.4).
use Rattle.std.specs.Prelude.{ℕ, ◌+◌, ◌≡◌, ◌≤◌, ◌⊎◌, Some, IfSome, List, slice_get}
use Rattle.sides.specs.declared.side.Side.{Side}
use Rattle.path_core.specs.Codec.{Codec}
use Rattle.path_core.specs.State.{PathState, end_at}
use Rattle.world_laws.specs.declared.member.Member.TheVariants.{App, Path}
use Rattle.world_laws.specs.Actors.{Actor, ActorCrew}
use Rattle.world_laws.specs.Openings.{Start}
use Rattle.world_laws.specs.RoundDone.{reached}
use Rattle.world_laws.specs.Worlds.{Turn, after_turn}

module _ {C : Type 0} where
  -- as the path becomes another one: where the timer of this side's end runs, it does so to the tick to which it ran, or to one a second past
  -- the clock at least
  abbrev pub RunsForASecond : Side → PathState C → PathState C → Type 0
  RunsForASecond s p q = IfSome (end_at s q).tcp.timing.timer (λ tick. ((end_at s p).tcp.timing.timer ≡ Some tick) ⊎ (q.clock + 1000 ≤ tick))

  -- at both ends, as the path becomes this actor
  abbrev pub TimersRunForASecond : Actor C → Actor C → Type 0
  TimersRunForASecond (Path p) (Path q) = (s : Side) → RunsForASecond s p q
  TimersRunForASecond (App a) (App b) = Unit {0}
  TimersRunForASecond _ _ = ⊥

  -- by each turn
  abbrev pub EachTimerRunsForASecond : Codec C → Type 0
  EachTimerRunsForASecond k = (start : Start) (turns : List Turn) (turn : Turn) → let w = reached k start turns in (actor : ℕ) (c : ActorCrew C)
      → slice_get w.crew actor ≡ Some c → (d : ActorCrew C) × (slice_get (after_turn k turn w).crew actor ≡ Some d) × TimersRunForASecond c.member d.member
