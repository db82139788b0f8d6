-- A piece that comes to an open end is taken in order, with its mapping, or came before (RFC 9293, section 3.10.7.4; RFC 8684, section
-- 3.3.1).
use Rattle.std.specs.Prelude.{ℕ, ◌+◌, ◌-◌, ◌^◌, ◌≡◌, ◌<◌, ◌≤◌, ◌⊎◌, Bool, true, false, Option, None, Some, is_some, List, [], ◌∷◌, length}
use Rattle.mptcp_options.specs.declared.capable.CapableKeys.TheVariants.{WithData}
use Rattle.sides.specs.declared.side.Side.{Side}
use Rattle.sides.specs.declared.side.Side.TheVariants.{A}
use Rattle.sides.specs.Side.{peer}
use Rattle.path_segments.specs.Spelled.{PlainSegment}
use Rattle.path_segments.specs.declared.segment.PathMapping.TheVariants.{Bytes}
use Rattle.path_segments.specs.declared.segment.PathOption.TheVariants.{Capable, Dss}
use Rattle.link_model.specs.declared.flight.Due.{Due}
use Rattle.link_model.specs.declared.flight.Flight.{Flight}
use Rattle.link_model.specs.Steps.{arriving, due_of}
use Rattle.subflow_recv.specs.Receiving.{window_end}
use Rattle.subflow_send.specs.Records.{Record}
use Rattle.subflow_send.specs.declared.record.RecordKind.TheVariants.{Data}
use Rattle.subflow_tcp.specs.State.{is_at_limit}
use Rattle.subflow_tcp.specs.States.{is_dead}
use Rattle.subflow_tcp.specs.declared.verdicts.Meaning.TheVariants.{Outside}
use Rattle.path_agenda.specs.declared.duty.Duty.{Duty}
use Rattle.path_agenda.specs.declared.duty.Duty.TheVariants as duties
use Rattle.path_agenda.specs.declared.duty.StepDuty.TheVariants as step_duties
use Rattle.path_core.specs.DssOut.{is_first_piece, place_numbered}
use Rattle.path_core.specs.End.{PathEnd}
use Rattle.path_core.specs.Events.{next_event}
use Rattle.path_core.specs.MpJoin.{is_joined}
use Rattle.path_core.specs.Profile.{Profile}
use Rattle.path_core.specs.State.{PathState, end_at}
use Rattle.path_core.specs.Values.{Carried, carried_by, values}
use Rattle.path_core.specs.declared.events.Event.TheVariants as happenings
use Rattle.path_core.specs.declared.judged.Judged.TheVariants as judged
use Rattle.whole_paths.specs.AsFar.{stage}
use Rattle.whole_paths.specs.Brought.{Comes, IsTo, Brings}
use Rattle.whole_paths.specs.Copies.{IsUnderWay}
use Rattle.whole_paths.specs.Due.{CopiesArriveSo}
use Rattle.whole_paths.specs.Expiries.{IsSegmentOf, IsSaidAt}
use Rattle.whole_paths.specs.Flights.{IsCopyOf}
use Rattle.whole_paths.specs.InHand.{IsInOrder}

-- the segment has bytes behind the SYN, and a DSS that maps them all to places up to 2^62
pub record IsPiece (x : PlainSegment) : Type 0 where
  pub syn : x.syn ≡ false
  pub fin : x.fin ≡ false
  pub rst : x.rst ≡ false
  pub some : 0 < length x.payload
  pub next : ℕ
  pub place : ℕ
  pub checksum : Option ℕ
  pub options : x.options ≡ Dss (Some next) (Some (Bytes place x.position (length x.payload) false checksum)) ∷ []
  pub behind_syn : 0 < x.position
  pub low : place + length x.payload ≤ 2 ^ 62
  pub short : x.position + length x.payload < 2 ^ 64 - 1

-- A's first piece, which maps its bytes by the option that shows both keys (RFC 8684, section 3.1)
pub record IsFirstPiece (x : PlainSegment) : Type 0 where
  pub position : x.position ≡ 1
  pub some : 0 < length x.payload
  pub few : length x.payload ≤ 65475
  pub sums : Bool
  pub own : ℕ
  pub other : ℕ
  pub checksum : Option ℕ
  pub options : x.options ≡ Capable sums false (WithData own other (length x.payload) checksum) ∷ []

-- a segment of this side maps its bytes, in the one way or the other; A's first piece goes on the path that opens the connection
pub data IsMappedPiece (c : Profile) (s : Side) (x : PlainSegment) : Type 0 where
  piece : IsPiece x → IsMappedPiece c s x
  first : is_joined c ≡ false → s ≡ A → IsFirstPiece x → x.syn ≡ false → x.fin ≡ false → x.rst ≡ false → IsMappedPiece c s x

-- The record has bytes behind the SYN, which its end sends with their own mapping, to places up to 2^62: neither in plain TCP nor by an
-- infinite mapping; as A's first piece, which carries both keys, only on the path that opens the connection and where the end knows the peer's.
pub record HasItsMapping (c : Profile) (s : Side) (r : Record) (e : PathEnd) : Type 0 where
  pub kind : r.kind ≡ Data
  pub some : 0 < length r.piece
  pub behind_syn : 0 < r.pos
  pub short : r.pos + length r.piece < 2 ^ 64 - 1
  pub whole : r.mapping.length ≡ length r.piece
  pub low : place_numbered c s r.mapping.number + length r.piece ≤ 2 ^ 62
  pub mapped : e.modes.identity ≡ false
  pub finite : e.modes.own_infinite ≡ None
  pub few : length r.piece ≤ 65475
  pub told : (is_first_piece s r e ≡ false) ⊎ ((is_joined c ≡ false) × (is_some e.modes.peer_key ≡ true))

-- the segment of such a record is such a segment
abbrev pub EachMappedRecordIsAPiece : Type 0
EachMappedRecordIsAPiece = (c : Profile) (s : Side) (r : Record) (e : PathEnd) (x : PlainSegment) → HasItsMapping c s r e → IsSegmentOf r x
    → IsSaidAt c s r e x → IsMappedPiece c s x

-- the end has both SYNs, and takes the segment: RCV.NXT is one of its positions, all of them lie in the window, and what it acknowledges
-- was sent
pub record Takes (x : PlainSegment) (e : PathEnd) : Type 0 where
  pub opened : 2 ≤ stage e.tcp.state
  pub living : is_dead e.tcp.state ≡ false
  pub below_limit : is_at_limit e.tcp ≡ false
  pub starts : x.position ≤ e.tcp.recv.edge
  pub new : e.tcp.recv.edge < x.position + length x.payload
  pub within : x.position + length x.payload ≤ window_end e.tcp.recv
  pub in_window : x.position + length x.payload ≤ e.tcp.recv.edge + 1048576
  pub acknowledged : ℕ
  pub acknowledges : x.acknowledged ≡ Some acknowledged
  pub answered : 0 < acknowledged
  pub sent : acknowledged ≤ e.tcp.send.nxt
  pub mapped : e.modes.identity ≡ false

-- the end has both SYNs, and RCV.NXT is past the segment
pub record CameBefore (x : PlainSegment) (e : PathEnd) : Type 0 where
  pub opened : 2 ≤ stage e.tcp.state
  pub living : is_dead e.tcp.state ≡ false
  pub below_limit : is_at_limit e.tcp ≡ false
  pub passed : x.position + length x.payload ≤ e.tcp.recv.edge

-- a copy of such a segment that comes, neither stripped nor altered
pub record Arrival (x : PlainSegment) (p : PathState Carried) : Type 0 where
  pub others : List Duty
  pub first : p.agenda ≡ duties.Step step_duties.Events ∷ others
  pub due : Due
  pub next : next_event p ≡ Some (happenings.Arrives due)
  pub flight : Flight Carried
  pub there : arriving due p.link ≡ Some flight
  pub carried : flight.carried ≡ carried_by p.profile.spelling (peer due.to) x

-- a copy of a record comes that was under way, where nothing was taken away or altered
abbrev pub EachCopyArrives : Type 0
EachCopyArrives = (s : Side) (r : Record) (p : PathState Carried) (f : Flight Carried) (copy : IsCopyOf values s r p f) → copy.stripped ≡ false
    → copy.altered ≡ false
    → IsUnderWay f p → f.number < 2 ^ 64 - 1 → CopiesArriveSo p → (others : List Duty) → p.agenda ≡ duties.Step step_duties.Events ∷ others
    → next_event p ≡ Some (happenings.Arrives (due_of f)) → Arrival copy.segment p

-- Of a path that joins, this side's end is past the handshake: from then on a copy is to it what it means to its subflow (RFC 8684, section 3.2),
-- as on the path that opens the connection.
abbrev pub HasJoined : Side → PathState Carried → Type 0
HasJoined s p = is_joined p.profile ≡ true → 3 ≤ stage (end_at s p).tcp.state

-- a record's payload is brought in order
pub record ComesInOrder (x : PlainSegment) (p : PathState Carried) : Type 0 where
  pub brings : Brings values p
  pub payload : brings.copy.segment.payload ≡ x.payload
  pub position : brings.position ≡ x.position
  pub in_order : IsInOrder values p brings

-- a copy lies outside the window, and is answered so
pub record ComesAgain (p : PathState Carried) : Type 0 where
  pub copy : Comes values p
  pub outside : IsTo values p copy (judged.As Outside)

abbrev pub EachPieceComesInOrder : Type 0
EachPieceComesInOrder = (x : PlainSegment) (p : PathState Carried) (a : Arrival x p) → HasJoined a.due.to p → IsMappedPiece p.profile (peer a.due.to) x
    → (Takes x (end_at a.due.to p) → ComesInOrder x p) × (CameBefore x (end_at a.due.to p) → ComesAgain p)
