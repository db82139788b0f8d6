-- Paths that join a connection of which no line is harsh: past the handshake none breaks (RFC 8684, sections 3.2 and 3.6).
use Rattle.std.specs.Prelude.{ℕ, ◌≡◌, ◌≤◌, Some, slice_get, true}
use Rattle.sides.specs.declared.side.Side.{Side}
use Rattle.path_core.specs.MpJoin.{is_joined}
use Rattle.path_core.specs.State.{PathState, end_at}
use Rattle.world_laws.specs.Actors.{ActorCrew}
use Rattle.world_laws.specs.Members.{HoldsOfKind}
use Rattle.world_laws.specs.Worlds.{WorldState}
use Rattle.whole_paths.specs.AsFar.{stage}
use Rattle.whole_paths.specs.Mild.{IsUnbroken}

module _ {C : Type 0} where
  -- a path that joins, once each of its ends is established, or was before it died
  abbrev pub IsJoinUnbroken : PathState C → Type 0
  IsJoinUnbroken p = is_joined p.profile ≡ true → ((s : Side) → 3 ≤ stage (end_at s p).tcp.state) → IsUnbroken p

  -- each one
  pub record JoinedPathsNeverBreak (w : WorldState C) : Type 0 where
    pub each : (actor : ℕ) (c : ActorCrew C) → slice_get w.crew actor ≡ Some c → HoldsOfKind (λ app. Unit {0}) IsJoinUnbroken c.member
