-- Where the turn of a path is over, no DATA_FIN and no FIN is left to be sent (RFC 8684, section 3.3.3; RFC 9293, section 3.6).
use Rattle.std.specs.Prelude.{ℕ, ◌≡◌, false, Some, [], slice_get}
use Rattle.sides.specs.declared.side.Side.{Side}
use Rattle.path_core.specs.DataFin.{is_data_fin_due, is_fin_due}
use Rattle.path_core.specs.End.{PathEnd}
use Rattle.path_core.specs.State.{PathState, end_at}
use Rattle.world_laws.specs.Actors.{ActorCrew}
use Rattle.world_laws.specs.Members.{HoldsOfKind}
use Rattle.world_laws.specs.Worlds.{WorldState}

-- neither is due at an end
pub record OwesNoEnd (e : PathEnd) : Type 0 where
  pub data_fin : is_data_fin_due e ≡ false
  pub fin : is_fin_due e ≡ false

module _ {C : Type 0} where
  abbrev pub EndsAreSentAt : PathState C → Type 0
  EndsAreSentAt p = p.agenda ≡ [] → (s : Side) → OwesNoEnd (end_at s p)

  -- on each path
  pub record EndsAreSent (w : WorldState C) : Type 0 where
    pub each : (actor : ℕ) (c : ActorCrew C) → slice_get w.crew actor ≡ Some c → HoldsOfKind (λ app. Unit {0}) EndsAreSentAt c.member
