-- How far path 0 is on its way until both of its ends may send a DSS, in steps that no end takes back (RFC 9293, section 3.5; RFC 8684, section 3.1).
use Rattle.std.specs.Prelude.{ℕ, ◌+◌, ◌-◌, ◌≡◌, ◌<◌, min, true, false, Option, None, Some, List, slice_get}
use Rattle.sides.specs.declared.side.Side.{Side}
use Rattle.sides.specs.Side.{peer}
use Rattle.subflow_tcp.specs.States.{is_dead}
use Rattle.path_core.specs.State.{PathState, end_at}
use Rattle.path_core.specs.Values.{Carried, values}
use Rattle.world_laws.specs.Actors.{ActorCrew}
use Rattle.world_laws.specs.Members.{of_kind}
use Rattle.world_laws.specs.Openings.{Start}
use Rattle.world_laws.specs.RoundDone.{reached}
use Rattle.world_laws.specs.Worlds.{Turn}
use Rattle.whole_paths.specs.AsFar.{stage}
use Rattle.whole_paths.specs.Courses.{harmed_so_far}
use Rattle.whole_paths.specs.Exchanges.{AtEither}
use Rattle.whole_paths.specs.Finish.{is_harmed}
use Rattle.whole_paths.specs.News.{one_if}
use Rattle.whole_paths.specs.Waits.{IsNews}

-- ---- steps

-- that A's end is past the handshake, B's half-open, then past it, and each may send a DSS: five at most
abbrev pub steps_open : {C : Type 0} → PathState C → ℕ
steps_open p = min 1 (stage p.a.tcp.state - 2) + min 2 (stage p.b.tcp.state - 1) + one_if p.a.modes.clear + one_if p.b.modes.clear

abbrev pub steps_in : {C : Type 0} → Option (ActorCrew C) → ℕ
steps_in (Some c) = of_kind (λ app. 0) steps_open c.member
steps_in None = 0

-- of path 0 after these turns, and how many of its segments were harmed by them
abbrev pub opened_or_harmed : Start → List Turn → ℕ
opened_or_harmed start turns = steps_in (slice_get (reached values start turns).crew 2) + harmed_so_far values start turns

-- ---- by a turn

-- as the path becomes another one: it is a step further, or a segment is harmed, or an end is dead
pub data OpensOn (p q : PathState Carried) : Type 0 where
  -- an end may send a DSS
  clears : (s : Side) → (end_at s p).modes.clear ≡ false → (end_at s q).modes.clear ≡ true → OpensOn p q
  -- something comes to an end that might send none, or there is news at one whose peer might send none: they may now
  comes : (s : Side) → (end_at s p).modes.clear ≡ false → (end_at s p).tcp.recv.edge < (end_at s q).tcp.recv.edge → OpensOn p q
  news : (s : Side) → (end_at (peer s) p).modes.clear ≡ false → IsNews (end_at s p) (end_at s q) → OpensOn p q
  harmed : (t : Side) → is_harmed t p q ≡ true → OpensOn p q
  gone : (t : Side) → AtEither (λ e. is_dead e.tcp.state ≡ true) t p q → OpensOn p q
