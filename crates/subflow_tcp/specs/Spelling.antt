-- The numbers of an end's segments (RFC 9293, section 3.4), and its ports.
use Rattle.std.specs.Prelude.{ℕ, ◌*◌, ◌^◌, true, false, nat_lt, if◌then◌else◌, is_some, Option, Some, None}
use Rattle.std.specs.Prelude.{unwrap_or}
use Rattle.sides.specs.declared.side.Side.{Side}
use Rattle.sides.specs.declared.side.Side.TheVariants.{A, B}
use Rattle.sides.specs.Side.{peer}
use Rattle.seq_units.specs.Number.{number_of, position_near}
use Rattle.segment_wire.specs.declared.head.Head.{Head}
use Rattle.segment_wire.specs.Paths.{port_of}
use Rattle.segment_wire.specs.Segment.{Segment}
use Rattle.subflow_tcp.specs.declared.spelling.Numbers.{Numbers}
use Rattle.subflow_tcp.specs.declared.segments.Outgoing.{Outgoing}
use Rattle.subflow_tcp.specs.declared.segments.Emission.{Emission}
use Rattle.subflow_tcp.specs.Segments.{Copy}

-- A opens a path, and B listens
abbrev pub side_of : Numbers → Side
side_of n = if n.opens then A else B

abbrev pub own_port : Numbers → ℕ
own_port n = port_of n.path (side_of n)

abbrev pub peer_port : Numbers → ℕ
peer_port n = port_of n.path (peer (side_of n))

-- ---- read
-- the initial number, or else this one
abbrev pub initial_or : Option ℕ → ℕ → ℕ
initial_or None number = number
initial_or (Some initial) number = initial

-- the peer's initial number; until its SYN was taken, that of the segment itself
abbrev pub peer_initial : Numbers → ℕ → ℕ
peer_initial n number = initial_or n.peer number

-- the position that a number means beside the receive edge, which is below 2^61
abbrev pub position_heard : Numbers → ℕ → ℕ → Option ℕ
position_heard n edge number = if nat_lt edge (2 ^ 61) then position_near (2 ^ 32) (peer_initial n number) edge number else None

-- the position that is acknowledged, beside SND.UNA
abbrev pub acknowledged_heard : Numbers → ℕ → Head → Option ℕ
acknowledged_heard n una head = if head.ack_set then Some (unwrap_or (position_near (2 ^ 32) n.own una head.ack) 0) else None

-- a SYN's window is told as it stands, any other in units of 32 octets (RFC 7323, section 2.2)
abbrev pub window_heard : Head → ℕ
window_heard head = if head.syn then head.window else 32 * head.window

-- a segment by positions, at this receive edge and this SND.UNA
abbrev pub heard : Numbers → ℕ → ℕ → Segment → Copy
heard n edge una segment = record {
  position = position_heard n edge segment.head.seq;
  acknowledged = acknowledged_heard n una segment.head;
  syn = segment.head.syn;
  fin = segment.head.fin;
  rst = segment.head.rst;
  window = window_heard segment.head;
  payload = segment.payload;
}

-- ---- written
-- the number of the position that is acknowledged, or else 0
abbrev pub acknowledged_said : Numbers → Option ℕ → ℕ
acknowledged_said n None = 0
acknowledged_said n (Some p) = number_of (2 ^ 32) (peer_initial n 0) p

-- the header, with the window 0
abbrev pub head_said : Numbers → Outgoing → Head
head_said n o = record {
  source_port = own_port n;
  destination_port = peer_port n;
  seq = number_of (2 ^ 32) n.own o.position;
  ack = acknowledged_said n o.acknowledged;
  syn = o.syn;
  fin = o.fin;
  rst = o.rst;
  ack_set = is_some o.acknowledged;
  window = 0;
}

-- a segment with its header, and where its octets stand
abbrev pub said : Numbers → Outgoing → Emission
said n o = record { head = head_said n o; pos = o.position; length = o.length }

-- A segment that nobody wants gets a reset: at the number that it acknowledges, or else at number 0 with an
-- acknowledgement of all that it occupies (RFC 9293, section 3.10.7.1). That is said of numbers, and of positions that have them.
pub record ResetNumbers (N : Type 0) : Type 0 where
  pub at : N
  pub acknowledged : Option N

-- the number 0, how one is counted on, and what the segment acknowledges, begins at and occupies
abbrev pub reset_numbers : {N : Type 0} → N → (N → ℕ → N) → Option N → N → ℕ → ResetNumbers N
reset_numbers zeroth behind (Some acknowledged) first occupied = record { at = acknowledged; acknowledged = None }
reset_numbers zeroth behind None first occupied = record { at = zeroth; acknowledged = Some (behind first occupied) }

-- the header of such a reset
abbrev pub reset_head : Numbers → ResetNumbers ℕ → Head
reset_head n reset = record {
  source_port = own_port n;
  destination_port = peer_port n;
  seq = reset.at;
  ack = unwrap_or reset.acknowledged 0;
  syn = false;
  fin = false;
  rst = true;
  ack_set = is_some reset.acknowledged;
  window = 0;
}

-- the reset that answers a segment of this header, which occupies so many numbers
abbrev pub reset_answer : Numbers → Head → ℕ → Head
reset_answer n head occupied =
    reset_head n (reset_numbers 0 (number_of (2 ^ 32)) (if head.ack_set then Some head.ack else None) head.seq occupied)
