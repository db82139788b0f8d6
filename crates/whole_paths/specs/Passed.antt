-- An end passes what it can of what it keeps: RCV.NXT stands behind all octets in order whose places it knows (RFC 8684, section 3.3.1).
use Rattle.std.specs.Prelude.{ℕ, ◌≡◌, false, Some, None, IfSome, [], slice_get}
use Rattle.sides.specs.declared.side.Side.{Side}
use Rattle.subflow_tcp.specs.States.{is_dead}
use Rattle.path_core.specs.Deliver.{piece_of}
use Rattle.path_core.specs.Looking.{first_sends, segment_sent}
use Rattle.path_core.specs.State.{PathState, end_at}
use Rattle.world_laws.specs.Members.{HoldsOfKind}
use Rattle.world_laws.specs.Actors.{ActorCrew}
use Rattle.world_laws.specs.Worlds.{WorldState}

-- No bytes of this side's end are to be placed next. So the octet at RCV.NXT isn't kept, or it has no mapping, or with checksums its mapping
-- isn't kept whole; in plain TCP and under an infinite mapping the octet isn't kept.
pub record HasNoneToPass {C : Type 0} (s : Side) (p : PathState C) : Type 0 where
  -- where the turn of the path is over
  pub over : p.agenda ≡ [] → piece_of s p ≡ None
  -- where the end sends a segment next that is no reset
  pub sends : IfSome (first_sends p.agenda p) (λ t. t.from ≡ s → (segment_sent p t).rst ≡ false → piece_of s p ≡ None)

-- of each end that isn't dead
abbrev pub HasPassed : {C : Type 0} → PathState C → Type 0
HasPassed p = (s : Side) → is_dead (end_at s p).tcp.state ≡ false → HasNoneToPass s p

-- on each path
pub record WhatIsInOrderIsPassed {C : Type 0} (w : WorldState C) : Type 0 where
  pub each : (actor : ℕ) (c : ActorCrew C) → slice_get w.crew actor ≡ Some c → HoldsOfKind (λ app. Unit {0}) HasPassed c.member
