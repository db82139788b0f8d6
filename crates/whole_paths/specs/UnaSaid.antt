-- SND.UNA rises by copies alone: what it becomes the copy acknowledges that the end takes next (RFC 9293, section 3.10.7.4).
use Rattle.std.specs.Prelude.{ℕ, ◌≡◌, true, false, Some, slice_get}
use Rattle.path_segments.specs.Laws.{meant}
use Rattle.sides.specs.declared.side.Side.{Side}
use Rattle.link_model.specs.declared.flight.Flight.{Flight}
use Rattle.subflow_tcp.specs.States.{is_dead}
use Rattle.path_core.specs.State.{PathState, end_at}
use Rattle.path_core.specs.Values.{Carried, as_arrived, values}
use Rattle.world_laws.specs.declared.member.Member.TheVariants.{App, Path}
use Rattle.world_laws.specs.Actors.{Actor, ActorCrew}
use Rattle.world_laws.specs.Worlds.{Turn, WorldState, after_turn}
use Rattle.whole_paths.specs.Copies.{IsUnderWay}
use Rattle.whole_paths.specs.Hearing.{Acknowledges}

-- the copy comes next, and this side's end takes it, or accepts it as the SYN/ACK: it acknowledges all before this position
pub record IsTakenNext (s : Side) (n : ℕ) (p : PathState Carried) (copy : Flight Carried) : Type 0 where
  pub takes : Acknowledges values p
  pub to : takes.copy.due.to ≡ s
  pub segment : takes.copy.segment ≡ meant (as_arrived copy.carried)
  pub acknowledged : takes.acknowledged ≡ n

-- of a side's end, as the path becomes another one
pub data UnaFrom (s : Side) (p q : PathState Carried) : Type 0 where
  stays : (end_at s q).tcp.send.una ≡ (end_at s p).tcp.send.una → UnaFrom s p q
  comes : (copy : Flight Carried) → IsUnderWay copy p → copy.to ≡ s → copy.carried.segment.rst ≡ false
      → copy.carried.segment.acknowledged ≡ Some (end_at s q).tcp.send.una → IsTakenNext s (end_at s q).tcp.send.una p copy → UnaFrom s p q
  gone : is_dead (end_at s q).tcp.state ≡ true → UnaFrom s p q

-- as an actor becomes this one
abbrev pub UnasAreSaid : Actor Carried → Actor Carried → Type 0
UnasAreSaid (Path p) (Path q) = (s : Side) → UnaFrom s p q
UnasAreSaid (App a) (App b) = Unit {0}
UnasAreSaid _ _ = ⊥

-- by any turn
abbrev pub EachUnaIsSaid : Type 0
EachUnaIsSaid = (w : WorldState Carried) (turn : Turn) (actor : ℕ) (c : ActorCrew Carried) → slice_get w.crew actor ≡ Some c
    → (d : ActorCrew Carried) × (slice_get (after_turn values turn w).crew actor ≡ Some d) × UnasAreSaid c.member d.member
