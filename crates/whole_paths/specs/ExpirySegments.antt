-- Which segments end the expiries in a row of an end, and which are answered by an acknowledgement (RFC 9293, section 3.10.7.4; RFC 6298, section 5;
-- RFC 8684, section 3.3.3).
use Rattle.std.specs.Prelude.{ℕ, ◌+◌, ◌^◌, ◌≡◌, ◌<◌, ◌≤◌, ◌⊎◌, false, Option, Some, [], ◌∷◌}
use Rattle.sides.specs.declared.side.Side.{Side}
use Rattle.path_segments.specs.Laws.{meant}
use Rattle.path_segments.specs.Spelled.{PlainSegment}
use Rattle.path_segments.specs.declared.segment.PathMapping.TheVariants.{End}
use Rattle.path_segments.specs.declared.segment.PathOption.TheVariants.{Dss}
use Rattle.subflow_tcp.specs.Segments.{occupied}
use Rattle.path_core.specs.Arrival.{copy_of}
use Rattle.path_core.specs.End.{PathEnd}
use Rattle.path_core.specs.State.{PathState, end_at}
use Rattle.path_core.specs.Values.{Carried}
use Rattle.whole_paths.specs.AsFar.{stage}

-- the segment acknowledges something, and is no reset
pub record AcksSomething (x : PlainSegment) : Type 0 where
  pub rst : x.rst ≡ false
  pub up_to : ℕ
  pub acknowledged : x.acknowledged ≡ Some up_to
  pub some : 0 < up_to

-- The end of this side has both SYNs. The segment begins in its window, or has no octets and stands at its right edge.
pub record IsHeardInWindow (s : Side) (x : PlainSegment) (p : PathState Carried) : Type 0 where
  pub opened : 2 ≤ stage (end_at s p).tcp.state
  pub acks : AcksSomething x
  pub from : (end_at s p).tcp.recv.edge ≤ x.position
  pub within : (x.position < (end_at s p).tcp.recv.edge + 1048576) ⊎ ((x.position ≡ (end_at s p).tcp.recv.edge + 1048576) × (x.payload ≡ []))

-- The segment occupies positions, by octets or a flag; or it occupies none, and lies before RCV.NXT of the end that it comes to; or it has a DATA_FIN
-- alone.
pub data AsksForAnAck (e : PathEnd) (x : PlainSegment) : Type 0 where
  occupies : 0 < occupied (copy_of (meant x)) → AsksForAnAck e x
  behind : x.position < e.tcp.recv.edge → occupied (copy_of (meant x)) ≡ 0 → AsksForAnAck e x
  ends : (next place : ℕ) (checksum : Option ℕ) → x.options ≡ Dss (Some next) (Some (End place checksum)) ∷ [] → next < 2 ^ 62 → place ≤ 2 ^ 62 → AsksForAnAck e x
