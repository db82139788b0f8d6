-- What becomes of all that the ends of a path sent: it comes in time, or it is to be mended, since a segment was harmed.
use Rattle.std.specs.Prelude.{ℕ, ◌+◌, ◌-◌, ◌^◌, ◌≡◌, ◌<◌, ◌≤◌, ◌⊎◌, Bool, true, false, Some, List, [], ◌∷◌, ◌++◌, length}
use Rattle.sides.specs.declared.side.Side.{Side}
use Rattle.sides.specs.declared.side.Side.TheVariants.{B}
use Rattle.sides.specs.Side.{peer}
use Rattle.path_segments.specs.Spelled.{PlainSegment}
use Rattle.link_model.specs.declared.flight.Flight.{Flight}
use Rattle.link_model.specs.Fate.{is_stripped, is_altered}
use Rattle.link_model.specs.Steps.{changed, next_number, segments_sent}
use Rattle.stream_lanes.specs.Words.{Every, Has}
use Rattle.subflow_recv.specs.Receiving.{octet_at, after_keep_held}
use Rattle.subflow_send.specs.Records.{Record, end_of}
use Rattle.subflow_send.specs.declared.record.RecordKind.TheVariants.{Data}
use Rattle.subflow_tcp.specs.State.{is_fin_passed}
use Rattle.path_core.specs.Codec.{Codec}
use Rattle.path_core.specs.End.{PathEnd}
use Rattle.path_core.specs.Handover.{handed}
use Rattle.path_core.specs.Shown.{AltersNothing}
use Rattle.path_core.specs.State.{PathState, end_at}
use Rattle.path_core.specs.Values.{Carried, values}
use Rattle.world_laws.specs.Laws.{Always}
use Rattle.world_laws.specs.NeverFalls.{StripsNothing}
use Rattle.world_laws.specs.Openings.{Start}
use Rattle.world_laws.specs.RoundDone.{reached}
use Rattle.world_laws.specs.Worlds.{Turn}
use Rattle.whole_paths.specs.Brought.{IsThere}
use Rattle.whole_paths.specs.Copies.{CopiesAreNumbered, IsUnderWay, LinksAreNumbered}
use Rattle.whole_paths.specs.Exchanges.{IsSentWhole}
use Rattle.whole_paths.specs.Finish.{is_harmed}
use Rattle.whole_paths.specs.Flights.{IsCopyOf}
use Rattle.whole_paths.specs.Kept.{IsSameRecord}
use Rattle.whole_paths.specs.Mapped.{IsMapped}
use Rattle.whole_paths.specs.Mild.{IsMildStart}
use Rattle.whole_paths.specs.News.{one_if}
use Rattle.whole_paths.specs.OpenCourses.{IsNow}
use Rattle.whole_paths.specs.Straying.{IsOpen, IsOpenFrom}

-- ---- one segment

module _ {C : Type 0} where
  -- What the link made of the segment as the path became another one is under way, as the last one from the side, and comes within 400 ticks.
  -- Where no line of the path takes options away none were, and where none alters payload the copy's wasn't.
  pub record IsSentSoon (k : Codec C) (s : Side) (x : PlainSegment) (p q : PathState C) : Type 0 where
    pub copy : Flight C
    pub there : IsUnderWay copy q
    pub to : copy.to ≡ peer s
    pub number : copy.number ≡ segments_sent s q.link
    pub soon : copy.tick ≤ p.clock + 400
    pub stripped : Bool
    pub altered : Bool
    pub strips_it : stripped ≡ is_stripped s (next_number s p.link) p.clock p.link.lines
    pub alters_it : altered ≡ is_altered s (next_number s p.link) p.link.lines
    pub whole : StripsNothing p.link.lines → stripped ≡ false
    pub plain : AltersNothing p.link.lines → altered ≡ false
    pub carried : copy.carried
        ≡ changed (k.strips p.profile.spelling s) (k.alters p.profile.spelling s) stripped altered (k.makes p.profile.spelling s x)

  -- The link takes a segment: it is harmed, or comes within 400 ticks, twice the longest delay. So it is of the first 2^64 - 2 of a side.
  abbrev pub SegmentsComeSoon : Codec C → PathState C → PathState C → Type 0
  SegmentsComeSoon k p q = (s : Side) (x : PlainSegment) → segments_sent s p.link < 2 ^ 64 - 1 → q.link ≡ handed k s x p
      → (is_harmed s p q ≡ true) ⊎ IsSentSoon k s x p q

-- what is sent comes soon, or is harmed
pub record WhatIsSentComesSoon {C : Type 0} (k : Codec C) : Type 0 where
  pub numbered : Always k (λ start w. LinksAreNumbered w)
  pub comes : (p q : PathState C) → CopiesAreNumbered p → SegmentsComeSoon k p q

-- ---- one direction

-- the record is one of the end's that isn't acknowledged whole
abbrev pub IsRecordOf : PathEnd → Record → Type 0
IsRecordOf e r = Has (λ (x : Record). x ≡ r) e.tcp.send.records

-- each octet of the record came to the peer, with its mapping
abbrev pub IsAllThereOf : Side → Record → PathState Carried → Type 0
IsAllThereOf s r p = (pos : ℕ) → r.pos ≤ pos → pos < end_of r → ((octet : ℕ) × IsThere (peer s) pos octet p) × IsMapped (peer s) pos p

-- a copy of it is under way, with its own mapping, and comes by this tick
pub record ComesBy (s : Side) (r : Record) (by : ℕ) (p : PathState Carried) : Type 0 where
  pub copy : Flight Carried
  pub there : IsUnderWay copy p
  pub of_it : IsCopyOf values s r p copy
  pub whole : IsSentWhole p.profile s r of_it.sender of_it.stripped of_it.altered
  pub soon : copy.tick ≤ by

-- it came, or it comes by this tick
pub data IsThereBy (s : Side) (r : Record) (by : ℕ) (p : PathState Carried) : Type 0 where
  there : IsAllThereOf s r p → IsThereBy s r by p
  comes : ComesBy s r by p → IsThereBy s r by p

-- The record is to be sent, for the first time or since the timer ran out; or it is there within 400 ticks, twice the longest delay. No more is
-- asked of a SYN, or a FIN.
pub data IsWell (s : Side) (p : PathState Carried) (r : Record) : Type 0 where
  other : (r.kind ≡ Data → ⊥) → IsWell s p r
  unsent : r.sending.unsent ≡ true → IsWell s p r
  sent : IsThereBy s r (p.clock + 400) p → IsWell s p r

-- a segment of no octets is under way to this side, which acknowledges all before a position
pub record IsAnswerFor (s : Side) (position : ℕ) (p : PathState Carried) (f : Flight Carried) : Type 0 where
  pub to : f.to ≡ s
  pub up_to : ℕ
  pub acknowledged : f.carried.segment.acknowledged ≡ Some up_to
  pub enough : position ≤ up_to
  pub rst : f.carried.segment.rst ≡ false
  pub syn : f.carried.segment.syn ≡ false
  pub fin : f.carried.segment.fin ≡ false
  pub payload : f.carried.segment.payload ≡ []
  -- the side's RCV.NXT isn't past it, and what the side has stands before it
  pub from : (end_at s p).tcp.recv.edge ≤ f.carried.segment.position
  pub up_to_next : f.carried.segment.position ≤ (end_at (peer s) p).tcp.send.nxt
  pub room : f.carried.segment.position ≤ (end_at s p).tcp.recv.edge + 1048576
  pub kept : (pos octet : ℕ) → octet_at pos (end_at s p).tcp.recv ≡ Some octet → pos < f.carried.segment.position
  pub held : (pos octet : ℕ) → octet_at pos (after_keep_held (end_at s p).tcp.recv) ≡ Some octet
      → (pos < f.carried.segment.position) ⊎ (is_fin_passed (end_at s p).tcp ≡ true)
  pub heard : (pos : ℕ) → (end_at s p).tcp.fin_at ≡ Some pos → pos < f.carried.segment.position
  -- and each segment under way to it with octets or a FIN past its position acknowledges as much
  pub overtaken : (g : Flight Carried) → IsUnderWay g p → g.to ≡ s → g.carried.segment.rst ≡ false
      → 0 < length g.carried.segment.payload + one_if g.carried.segment.fin
      → f.carried.segment.position < g.carried.segment.position + length g.carried.segment.payload + one_if g.carried.segment.fin
      → (n : ℕ) × (g.carried.segment.acknowledged ≡ Some n) × (position ≤ n)

-- The end heard that its octets before this position came, or an answer that says so comes by this tick.
pub data IsToldBy (s : Side) (position by : ℕ) (p : PathState Carried) : Type 0 where
  heard : position ≤ (end_at s p).tcp.send.una → IsToldBy s position by p
  comes : (copy : Flight Carried) → IsUnderWay copy p → IsAnswerFor s position p copy → copy.tick ≤ by → IsToldBy s position by p

-- how far the peer is: it owes the acknowledgement, or the end is told within 400 ticks; no more is asked once the peer is past its FIN
pub data IsToldSoon (s : Side) (p : PathState Carried) : Type 0 where
  past_fin : is_fin_passed (end_at (peer s) p).tcp ≡ true → IsToldSoon s p
  owed : (end_at (peer s) p).tcp.due.ack ≡ true → IsToldSoon s p
  told : IsToldBy s (end_at (peer s) p).tcp.recv.edge (p.clock + 400) p → IsToldSoon s p

-- No segment is to be mended: each record of either end is well, and each end is told soon.
pub record IsMended (p : PathState Carried) : Type 0 where
  pub records : (s : Side) → Every (IsWell s p) (end_at s p).tcp.send.records
  pub told : (s : Side) → IsToldSoon s p

-- ---- by turns

-- the record was sent before, but for how often
pub record WasSent (e : PathEnd) (t : Record) : Type 0 where
  pub record_before : Record
  pub there : IsRecordOf e record_before
  pub same : IsSameRecord record_before t
  pub sent : record_before.sending.unsent ≡ false

-- of a side's records, as the path becomes another one
pub record RecordsStayWell (s : Side) (p q : PathState Carried) : Type 0 where
  pub clock : p.clock ≤ q.clock
  -- a record that was sent, and is there by a tick, is there by that tick still, though it be acknowledged meanwhile
  pub comes : (r : Record) (by : ℕ) → IsRecordOf (end_at s p) r → r.kind ≡ Data → IsThereBy s r by p → IsThereBy s r by q
  -- one that is sent in the turn is there within 400 ticks, or was harmed
  pub sent : (t : Record) → IsRecordOf (end_at s q) t → t.kind ≡ Data → t.sending.unsent ≡ false
      → WasSent (end_at s p) t ⊎ ((is_harmed s p q ≡ true) ⊎ IsThereBy s t (p.clock + 400) q)
  -- all stay well, or one was harmed
  pub well : Every (IsWell s p) (end_at s p).tcp.send.records → (is_harmed s p q ≡ true) ⊎ Every (IsWell s q) (end_at s q).tcp.send.records

-- The peer sent no more than the side's window has room for. That is so unless it sent its FIN behind a full window.
abbrev pub LeavesRoomFor : Side → PathState Carried → Type 0
LeavesRoomFor s p = (end_at (peer s) p).tcp.send.nxt ≤ (end_at s p).tcp.recv.edge + 1048576

-- of the answers of a side's peer, as the path becomes another one
pub record AnswersStay (s : Side) (p q : PathState Carried) : Type 0 where
  -- what is told by a tick is told by that tick still
  pub comes : (position by : ℕ) → IsToldBy s position by p → IsToldBy s position by q
  -- what is owed is owed still, or goes in the turn, or was harmed
  pub owed : LeavesRoomFor s p → (end_at (peer s) p).tcp.due.ack ≡ true
      → ((end_at (peer s) q).tcp.due.ack ≡ true) ⊎ ((is_harmed (peer s) p q ≡ true) ⊎ IsToldBy s (end_at (peer s) p).tcp.recv.edge (p.clock + 400) q)

module _ (start : Start) (turns : List Turn) (turn : Turn) where
  -- a turn of a mild connection, before which and after which this holds of path 0
  pub record IsTurnWhere (Holds : PathState Carried → Type 0) : Type 0 where
    pub mild : IsMildStart start
    pub before : IsNow Holds (reached values start turns)
    pub after : IsNow Holds (reached values start (turns ++ turn ∷ []))

  -- both ends are open
  abbrev pub IsOpenTurn : Type 0
  IsOpenTurn = IsTurnWhere IsOpen

  -- both are past the handshake, and B's may send a DSS
  abbrev pub IsBegunTurn : Type 0
  IsBegunTurn = IsTurnWhere (IsOpenFrom B)

-- each record stays well
abbrev pub EachRecordStaysWell : Type 0
EachRecordStaysWell = (start : Start) (turns : List Turn) (turn : Turn) (h : IsBegunTurn start turns turn) (s : Side)
    → RecordsStayWell s h.before.path h.after.path

-- each answer comes soon
abbrev pub EachAnswerComesSoon : Type 0
EachAnswerComesSoon = (start : Start) (turns : List Turn) (turn : Turn) (h : IsBegunTurn start turns turn) (s : Side)
    → AnswersStay s h.before.path h.after.path
