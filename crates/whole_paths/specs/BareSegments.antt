-- A segment of no octets, as it goes on its way: the end that it goes to takes it, or takes one before that goes past it (RFC 9293, section 3.10.7.4).
use Rattle.std.specs.Prelude.{ℕ, ◌+◌, ◌≡◌, ◌<◌, ◌≤◌, ◌⊎◌, false, true, IfSome, Some, List, [], length}
use Rattle.sides.specs.declared.side.Side.{Side}
use Rattle.sides.specs.Side.{peer}
use Rattle.path_segments.specs.Laws.{meant}
use Rattle.path_segments.specs.Spelled.{PlainSegment}
use Rattle.link_model.specs.declared.flight.Flight.{Flight}
use Rattle.link_model.specs.Steps.{due_of}
use Rattle.subflow_recv.specs.Receiving.{octet_at, after_keep_held}
use Rattle.subflow_tcp.specs.State.{is_fin_passed}
use Rattle.path_core.specs.Looking.{first_sends, segment_sent}
use Rattle.path_core.specs.State.{PathState, end_at}
use Rattle.path_core.specs.Values.{Carried, as_arrived, values}
use Rattle.world_laws.specs.Openings.{Start}
use Rattle.world_laws.specs.Worlds.{Turn}
use Rattle.whole_paths.specs.Brought.{Brings}
use Rattle.whole_paths.specs.Copies.{IsUnderWay}
use Rattle.whole_paths.specs.Finish.{is_harmed}
use Rattle.whole_paths.specs.Mending.{IsBegunTurn, IsSentSoon, LeavesRoomFor}
use Rattle.whole_paths.specs.News.{one_if}

-- a segment of no octets goes to this side, where nothing stands past its position
pub record IsBareTo (s : Side) (p : PathState Carried) (f : Flight Carried) : Type 0 where
  pub to : f.to ≡ s
  pub up_to : ℕ
  pub acknowledged : f.carried.segment.acknowledged ≡ Some up_to
  pub some : 0 < up_to
  pub rst : f.carried.segment.rst ≡ false
  pub syn : f.carried.segment.syn ≡ false
  pub fin : f.carried.segment.fin ≡ false
  pub payload : f.carried.segment.payload ≡ []
  -- the side's RCV.NXT isn't past it, and what the side has stands before it
  pub from : (end_at s p).tcp.recv.edge ≤ f.carried.segment.position
  pub up_to_next : f.carried.segment.position ≤ (end_at (peer s) p).tcp.send.nxt
  pub room : f.carried.segment.position ≤ (end_at s p).tcp.recv.edge + 1048576
  pub kept : (pos octet : ℕ) → octet_at pos (end_at s p).tcp.recv ≡ Some octet → pos < f.carried.segment.position
  pub held : (pos octet : ℕ) → octet_at pos (after_keep_held (end_at s p).tcp.recv) ≡ Some octet
      → (pos < f.carried.segment.position) ⊎ (is_fin_passed (end_at s p).tcp ≡ true)
  pub heard : (pos : ℕ) → (end_at s p).tcp.fin_at ≡ Some pos → pos < f.carried.segment.position

-- the end takes a copy next that goes past this position
pub record IsOvertaken (s : Side) (position : ℕ) (p : PathState Carried) : Type 0 where
  pub brings : Brings values p
  pub to : brings.copy.due.to ≡ s
  pub some : 0 < length brings.copy.segment.payload + one_if brings.copy.segment.fin
  pub past : position < brings.position + length brings.copy.segment.payload + one_if brings.copy.segment.fin

-- what becomes of a bare segment under way, as the path becomes another one: it is still, or is taken, or overtaken
pub data BareGoesOn (s : Side) (f : Flight Carried) (p q : PathState Carried) : Type 0 where
  on : IsUnderWay f q → IsBareTo s q f → BareGoesOn s f p q
  is_taken : (b : Brings values p) → b.copy.due ≡ due_of f → b.copy.segment ≡ meant (as_arrived f.carried) → BareGoesOn s f p q
  overtaken : IsOvertaken s f.carried.segment.position p → BareGoesOn s f p q

-- a segment that an end sends at SND.NXT, without an octet, and no reset
pub record IsBareFrom (t : Side) (p : PathState Carried) (x : PlainSegment) : Type 0 where
  pub position : x.position ≡ (end_at t p).tcp.send.nxt
  pub rst : x.rst ≡ false
  pub syn : x.syn ≡ false
  pub fin : x.fin ≡ false
  pub payload : x.payload ≡ []

-- the segment that was sent is under way as a bare one, and comes within 400 ticks
pub record BareIsSent (s : Side) (x : PlainSegment) (p q : PathState Carried) : Type 0 where
  pub sent : IsSentSoon values (peer s) x p q
  pub bare : IsBareTo s q sent.copy

-- Of the bare segments to a side's end, as the path becomes another one. Where one is overtaken, more was sent behind it. One that is sent in the turn
-- is harmed, or on its way.
pub record BareSegmentsGoOn (s : Side) (p q : PathState Carried) : Type 0 where
  pub goes : (f : Flight Carried) → IsUnderWay f p → IsBareTo s p f → BareGoesOn s f p q
  pub behind : (position : ℕ) → IsOvertaken s position p → position < (end_at (peer s) p).tcp.send.nxt
  pub sent : LeavesRoomFor s p → IfSome (first_sends p.agenda p) (λ x. x.from ≡ peer s → IsBareFrom (peer s) p (segment_sent p x)
      → (q ≡ p) ⊎ ((is_harmed (peer s) p q ≡ true) ⊎ BareIsSent s (segment_sent p x) p q))

-- by each turn of a mild connection between ends past the handshake, of which B's may send a DSS
abbrev pub BareSegmentsAreTaken : Type 0
BareSegmentsAreTaken = (start : Start) (turns : List Turn) (turn : Turn) (h : IsBegunTurn start turns turn) (s : Side) → BareSegmentsGoOn s h.before.path h.after.path
