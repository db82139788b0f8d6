-- What an end heard by Data ACKs, and what its side's book has of it, over any number of paths (RFC 8684, section 3.3.2).
use Rattle.std.specs.Prelude.{ℕ, ◌≡◌, ◌<◌, ◌≤◌, Some, length, slice_get}
use Rattle.sides.specs.declared.side.Side.{Side}
use Rattle.send_book.specs.State.{acked_len}
use Rattle.path_core.specs.State.{PathState, end_at}
use Rattle.path_core.specs.Values.{Carried}
use Rattle.world_laws.specs.Actors.{ActorCrew}
use Rattle.world_laws.specs.Members.{HoldsOfKind}
use Rattle.world_laws.specs.Promises.{written_by}
use Rattle.world_laws.specs.Worlds.{WorldState}

-- As long as a byte of its stream isn't acknowledged, an end heard of no more bytes than its side's book has acknowledged.
abbrev pub HearsWhatIsAcknowledged : WorldState Carried → PathState Carried → Type 0
HearsWhatIsAcknowledged w p = (s : Side) → acked_len (written_by s w).marks < length (written_by s w).written → (end_at s p).sending.heard ≤ acked_len (written_by s w).marks

-- on each path
pub record WhatIsHeardIsAcknowledged (w : WorldState Carried) : Type 0 where
  pub each : (actor : ℕ) (c : ActorCrew Carried) → slice_get w.crew actor ≡ Some c → HoldsOfKind (λ app. Unit {0}) (HearsWhatIsAcknowledged w) c.member
