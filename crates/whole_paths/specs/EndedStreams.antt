-- Over one path, an end that knows where its side's stream ends and waits for no Data ACK of bytes waits for that of its DATA_FIN alone: all
-- before is acknowledged (RFC 8684, section 3.3.3).
use Rattle.std.specs.Prelude.{ℕ, ◌≡◌, false, true, Some, List, [], ◌∷◌, slice_get}
use Rattle.sides.specs.declared.side.Side.{Side}
use Rattle.path_core.specs.Codec.{Codec}
use Rattle.path_core.specs.Emission.{may_ask}
use Rattle.path_core.specs.State.{PathState, end_at}
use Rattle.world_laws.specs.Actors.{ActorCrew}
use Rattle.world_laws.specs.Members.{HoldsOfKind}
use Rattle.world_laws.specs.Openings.{PathPlan, Start}
use Rattle.world_laws.specs.Outcomes.{notes_at}
use Rattle.world_laws.specs.Promises.{HasRoom, NumbersFit, written_by}
use Rattle.world_laws.specs.RoundDone.{reached}
use Rattle.world_laws.specs.Worlds.{Turn, WorldState}
use Rattle.whole_paths.specs.Acknowledged.{IsAllAcknowledged}

module _ {C : Type 0} where
  -- As the turn of the path is over, which is the actor 2, at an end that may ask for bytes, all of whose pieces are acknowledged and whose
  -- peer's window isn't shut. Or the path was on standby when it asked for bytes last, or the connection was stopped.
  abbrev pub EndedIsAcknowledged : WorldState C → PathState C → Type 0
  EndedIsAcknowledged w p = p.agenda ≡ [] → (s : Side) → may_ask p.profile s (end_at s p) ≡ true → (end_at s p).sending.granted ≡ []
      → (end_at s p).sending.shut ≡ false
      → (n : ℕ) → (end_at s p).sending.known_end ≡ Some n → IsAllAcknowledged s (notes_at 2 w.crew) n (written_by s w)

  -- at every moment of a connection over one path
  abbrev pub WhatEndedIsAcknowledged : Codec C → Type 0
  WhatEndedIsAcknowledged k = (start : Start) (plan : PathPlan) (turns : List Turn) → start.paths ≡ plan ∷ [] → HasRoom start → NumbersFit start
      → let w = reached k start turns in (c : ActorCrew C) → slice_get w.crew 2 ≡ Some c → HoldsOfKind (λ app. Unit {0}) (EndedIsAcknowledged w) c.member
