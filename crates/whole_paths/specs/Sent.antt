-- Nothing came that wasn't sent (RFC 9293, section 3.4).
use Rattle.std.specs.Prelude.{ℕ, ◌≡◌, ◌≤◌, Some, slice_get}
use Rattle.sides.specs.declared.side.Side.{Side}
use Rattle.sides.specs.Side.{peer}
use Rattle.path_core.specs.State.{PathState, end_at}
use Rattle.world_laws.specs.Members.{HoldsOfKind}
use Rattle.world_laws.specs.Actors.{ActorCrew}
use Rattle.world_laws.specs.Worlds.{WorldState}

module _ {C : Type 0} where
  -- RCV.NXT of each end lies at the peer's SND.NXT or below
  abbrev pub WasSent : PathState C → Type 0
  WasSent p = (s : Side) → (end_at s p).tcp.recv.edge ≤ (end_at (peer s) p).tcp.send.nxt

  -- on each path
  pub record WhatCameWasSent (w : WorldState C) : Type 0 where
    pub each : (actor : ℕ) (c : ActorCrew C) → slice_get w.crew actor ≡ Some c → HoldsOfKind (λ app. Unit {0}) WasSent c.member
