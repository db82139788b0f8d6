-- The FIN stands behind all else that an end sends (RFC 9293, section 3.10.4).
use Rattle.std.specs.Prelude.{ℕ, suc, ◌+◌, ◌≡◌, ◌≤◌, Some, IfSome, slice_get}
use Rattle.sides.specs.declared.side.Side.{Side}
use Rattle.sides.specs.Side.{peer}
use Rattle.stream_lanes.specs.Words.{Every}
use Rattle.subflow_send.specs.Records.{Record}
use Rattle.subflow_send.specs.declared.record.RecordKind.TheVariants.{Data, Fin}
use Rattle.path_core.specs.State.{PathState, end_at}
use Rattle.path_core.specs.Values.{Carried}
use Rattle.world_laws.specs.Actors.{ActorCrew}
use Rattle.world_laws.specs.Members.{HoldsOfKind}
use Rattle.world_laws.specs.Worlds.{WorldState}

-- SND.NXT of each end is behind its FIN, where that is to be acknowledged, and where the peer heard of it; all bytes that it maps stand before that
pub record FinIsLast (p : PathState Carried) : Type 0 where
  pub sent : (s : Side) → Every (λ (r : Record). r.kind ≡ Fin → suc r.pos ≡ (end_at s p).tcp.send.nxt) (end_at s p).tcp.send.records
  pub heard : (s : Side) → IfSome (end_at (peer s) p).tcp.fin_at (λ position. suc position ≡ (end_at s p).tcp.send.nxt)
  pub behind : (s : Side) → IfSome (end_at (peer s) p).tcp.fin_at (λ position. Every (λ (r : Record). r.kind ≡ Data → r.pos + r.mapping.length ≤ position) (end_at s p).tcp.send.records)

-- on each path
pub record FinsAreLast (w : WorldState Carried) : Type 0 where
  pub each : (actor : ℕ) (c : ActorCrew Carried) → slice_get w.crew actor ≡ Some c → HoldsOfKind (λ app. Unit {0}) FinIsLast c.member
