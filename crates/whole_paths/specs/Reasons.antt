-- What the timer of an end runs for (RFC 6298, section 5).
use Rattle.std.specs.Prelude.{ℕ, ◌≡◌, true, false, Some, None, IsSome, List, [], ◌∷◌, slice_get}
use Rattle.sides.specs.declared.side.Side.{Side}
use Rattle.subflow_send.specs.Records.{Record}
use Rattle.subflow_tcp.specs.States.{is_closed_to_segments}
use Rattle.path_store.specs.declared.granted_piece.GrantedPiece.{GrantedPiece}
use Rattle.path_core.specs.End.{PathEnd}
use Rattle.path_core.specs.State.{PathState, end_at}
use Rattle.world_laws.specs.Members.{HoldsOfKind}
use Rattle.world_laws.specs.Actors.{ActorCrew}
use Rattle.world_laws.specs.Worlds.{WorldState}

-- something of this end isn't answered yet
pub data IsOutstanding (e : PathEnd) : Type 0 where
  -- the SYN, a piece of data or the FIN isn't acknowledged (RFC 6298, section 5, rule 5.1)
  on_subflow : (first : Record) (others : List Record) → e.tcp.send.records ≡ first ∷ others → IsOutstanding e
  -- a byte that was granted to the path isn't acknowledged by a Data ACK (RFC 8684, section 3.3.2)
  on_stream : (first : GrantedPiece) (others : List GrantedPiece) → e.sending.granted ≡ first ∷ others → IsOutstanding e
  -- a DATA_FIN isn't, while bytes are mapped piece by piece (section 3.3.3)
  data_fin : e.modes.identity ≡ false → e.modes.own_infinite ≡ None → e.sending.fin_sent ≡ true → e.sending.close.own_acked ≡ false → IsOutstanding e
  -- the peer's window is shut, and is to be probed (RFC 9293, section 3.8.6.1)
  shut : e.sending.shut ≡ true → IsOutstanding e
  -- the third MP_JOIN isn't answered (RFC 8684, section 3.2)
  third : e.modes.owes_third ≡ true → IsOutstanding e
  -- MP_FASTCLOSE was sent, and no reset came (section 3.5)
  fast_close : e.notices.fast_closed ≡ true → IsOutstanding e

-- At the end of a turn of a path the timer of an end runs, if something of it is outstanding. An end that waits, listens or is dead has
-- none.
abbrev pub IsTimedWhereItWaits : {C : Type 0} → PathState C → Type 0
IsTimedWhereItWaits p = p.agenda ≡ [] → (s : Side) → is_closed_to_segments (end_at s p).tcp.state ≡ false → IsOutstanding (end_at s p)
    → IsSome (end_at s p).tcp.timing.timer

-- on each path
pub record WhoWaitsHasATimer {C : Type 0} (w : WorldState C) : Type 0 where
  pub each : (actor : ℕ) (c : ActorCrew C) → slice_get w.crew actor ≡ Some c → HoldsOfKind (λ app. Unit {0}) IsTimedWhereItWaits c.member
