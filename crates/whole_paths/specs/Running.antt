-- How long the timer of an end runs, whatever it runs for (RFC 6298, section 5).
use Rattle.std.specs.Prelude.{ℕ, ◌≡◌, true, false, Some, slice_get}
use Rattle.sides.specs.declared.side.Side.{Side}
use Rattle.subflow_tcp.specs.States.{is_closed_to_segments, is_dead}
use Rattle.path_core.specs.Codec.{Codec}
use Rattle.path_core.specs.End.{PathEnd}
use Rattle.path_core.specs.State.{PathState, end_at}
use Rattle.world_laws.specs.declared.member.Member.TheVariants.{App, Path}
use Rattle.world_laws.specs.Actors.{Actor, ActorCrew}
use Rattle.world_laws.specs.Worlds.{WorldState, Turn, after_turn}
use Rattle.whole_paths.specs.Expiries.{RunsOut}
use Rattle.whole_paths.specs.Reasons.{IsOutstanding}
use Rattle.whole_paths.specs.Waits.{IsSettled, IsNews}

-- the timer of an end that opens, is open or closes runs to this tick, and nothing was acknowledged since it was settled last
pub record IsRunning (tick : ℕ) (e : PathEnd) : Type 0 where
  pub timer : e.tcp.timing.timer ≡ Some tick
  pub settled : IsSettled e
  pub living : is_closed_to_segments e.tcp.state ≡ false

module _ {C : Type 0} where
  -- what becomes of it, as the path becomes another one
  pub data RunsOn (s : Side) (tick : ℕ) (p q : PathState C) : Type 0 where
    -- the timer runs on, to the same tick
    on : IsRunning tick (end_at s q) → RunsOn s tick p q
    -- the timer ran out, which was what came next on the path
    runs_out : (at : ℕ) → RunsOut s at p → RunsOn s tick p q
    -- there is news, or the end is dead
    news : IsNews (end_at s p) (end_at s q) → RunsOn s tick p q
    gone : is_dead (end_at s q).tcp.state ≡ true → RunsOn s tick p q
    -- nothing of the end is outstanding any longer
    done : (IsOutstanding (end_at s q) → ⊥) → RunsOn s tick p q

  -- at both ends of a path, as it becomes this actor
  abbrev pub EndsRunOn : Actor C → Actor C → Type 0
  EndsRunOn (Path p) (Path q) = (s : Side) (tick : ℕ) → IsRunning tick (end_at s p) → RunsOn s tick p q
  EndsRunOn (App a) (App b) = Unit {0}
  EndsRunOn _ _ = ⊥

  -- by any turn
  abbrev pub TimersRunOn : Codec C → Type 0
  TimersRunOn k = (w : WorldState C) (turn : Turn) (actor : ℕ) (c : ActorCrew C) → slice_get w.crew actor ≡ Some c
      → (d : ActorCrew C) × (slice_get (after_turn k turn w).crew actor ≡ Some d) × EndsRunOn c.member d.member
