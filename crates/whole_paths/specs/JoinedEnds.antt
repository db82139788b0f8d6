-- What an end knows of a path that joined (RFC 8684, section 3.2).
use Rattle.std.specs.Prelude.{ℕ, ◌≡◌, ◌≤◌, true, false, is_some, Some, List, slice_get}
use Rattle.sides.specs.declared.side.Side.{Side}
use Rattle.subflow_tcp.specs.States.{is_closed_to_segments}
use Rattle.path_core.specs.End.{PathEnd}
use Rattle.path_core.specs.MpJoin.{is_joined}
use Rattle.path_core.specs.State.{end_at}
use Rattle.path_core.specs.Values.{Carried, values}
use Rattle.world_laws.specs.Actors.{ActorCrew}
use Rattle.world_laws.specs.Members.{HoldsOfKind}
use Rattle.world_laws.specs.Openings.{Start}
use Rattle.world_laws.specs.RoundDone.{reached}
use Rattle.world_laws.specs.Worlds.{Turn}
use Rattle.whole_paths.specs.AsFar.{stage}

-- As soon as it has begun, and as long as it lives, it has the other end's key. Once it may send a DSS it is past the handshake, and owes no third MP_JOIN.
pub record KnowsItsPeer (e : PathEnd) : Type 0 where
  pub keyed : is_closed_to_segments e.tcp.state ≡ false → is_some e.modes.peer_key ≡ true
  pub past : e.modes.clear ≡ true → 3 ≤ stage e.tcp.state
  pub third : e.modes.clear ≡ true → e.modes.owes_third ≡ false

-- both ends of each path that joined, at every moment
abbrev pub JoinedEndsKnowTheirPeers : Type 0
JoinedEndsKnowTheirPeers = (start : Start) (turns : List Turn) (actor : ℕ) (c : ActorCrew Carried) → slice_get (reached values start turns).crew actor ≡ Some c
    → HoldsOfKind (λ app. Unit {0}) (λ p. is_joined p.profile ≡ true → (s : Side) → KnowsItsPeer (end_at s p)) c.member
