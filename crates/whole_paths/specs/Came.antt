-- Nothing is acknowledged that didn't come (RFC 9293, section 3.4).
use Rattle.std.specs.Prelude.{ℕ, ◌≡◌, ◌≤◌, ◌⊎◌, true, false, Some, IfSome, slice_get}
use Rattle.sides.specs.declared.side.Side.{Side}
use Rattle.sides.specs.Side.{peer}
use Rattle.path_segments.specs.Spelled.{PlainSegment}
use Rattle.link_model.specs.declared.flight.Flight.{Flight}
use Rattle.stream_lanes.specs.Words.{Every}
use Rattle.subflow_tcp.specs.States.{is_dead}
use Rattle.path_core.specs.State.{PathState, end_at}
use Rattle.path_core.specs.Values.{Carried}
use Rattle.world_laws.specs.Members.{HoldsOfKind}
use Rattle.world_laws.specs.Actors.{ActorCrew}
use Rattle.world_laws.specs.Worlds.{WorldState}

-- a segment acknowledges no position above this one, or is a reset
abbrev pub AcksUpTo : ℕ → PlainSegment → Type 0
AcksUpTo edge x = (x.rst ≡ true) ⊎ IfSome x.acknowledged (λ n. n ≤ edge)

-- as the RCV.NXT of its sender is
abbrev pub AcksWhatCame : PathState Carried → Flight Carried → Type 0
AcksWhatCame p f = AcksUpTo (end_at (peer f.to) p).tcp.recv.edge f.carried.segment

-- SND.UNA of each end that isn't dead lies at the peer's RCV.NXT or below, and so does what each copy under way to it acknowledges
pub record HasCome (p : PathState Carried) : Type 0 where
  pub una : (s : Side) → is_dead (end_at s p).tcp.state ≡ false → (end_at s p).tcp.send.una ≤ (end_at (peer s) p).tcp.recv.edge
  pub copies : Every (AcksWhatCame p) p.link.under_way

-- on each path
pub record WhatIsAcknowledgedCame (w : WorldState Carried) : Type 0 where
  pub each : (actor : ℕ) (c : ActorCrew Carried) → slice_get w.crew actor ≡ Some c → HoldsOfKind (λ app. Unit {0}) HasCome c.member
