-- One direction of a connection over one path that loses nothing, in numbers and ticks: what its writer, its
-- sending end, its receiving end and its reader have done so far, and the segments on the way.
use Rattle.std.specs.Prelude.{ℕ, ◌+◌, ◌-◌, min, Bool, true, false, Option, List}

-- What never changes while the direction is in use.
pub record Setting : Type 0 where
  -- ticks from a sending to its arrival
  pub delay : ℕ
  -- octets that one segment carries at most
  pub payload : ℕ
  -- octets by which the window must have grown for an update of it (RFC 9293, section 3.8.6.2.2)
  pub threshold : ℕ
  -- octets that the receiving side stores
  pub buffer : ℕ
  -- what a SYN tells of the buffer, since its window isn't scaled (RFC 7323, section 2.2)
  pub least : ℕ
  -- octets of the writer's file
  pub total : ℕ
  -- ticks of the least retransmission timeout
  pub rto : ℕ

-- What a segment tells of the direction that its sender receives on: the Data ACK, the edge of the window,
-- how many of SYN and FIN it acknowledges, and how many DSS options it has, 0 or 1.
pub record Telling : Type 0 where
  pub next : ℕ
  pub edge : ℕ
  pub seen : ℕ
  pub dss : ℕ

-- A segment on its way. It carries the bytes from place `low` up to `high`, a DATA_FIN or none (1 or 0), and
-- up to it its sender has sent so many of SYN and FIN, and has shown its keys so often; it is solid if it
-- carries bytes or a FIN.
pub record Copy : Type 0 where
  -- the tick of its arrival
  pub at : ℕ
  pub low : ℕ
  pub high : ℕ
  pub data_fin : ℕ
  pub control : ℕ
  pub keys : ℕ
  pub solid : Bool
  pub telling : Telling

-- The writing application.
pub record Writer : Type 0 where
  -- octets that the send book took of the file
  pub written : ℕ
  -- 1 once the stream is closed
  pub closed : ℕ
  -- the writer's turn of this round is over
  pub writer_over : Bool

-- The reading application.
pub record Reader : Type 0 where
  pub read : ℕ
  -- octets that were read in this round
  pub got : ℕ
  -- 1 once it was told the end
  pub told_end : ℕ
  -- the reader's turn of this round is over
  pub reader_over : Bool

-- The end that sends the bytes, with the send book of its side. Flags count as numbers, so that they only
-- grow.
pub record Sender : Type 0 where
  -- bytes that the book granted to the path: these were sent
  pub granted : ℕ
  -- the highest Data ACK and window edge that were heard
  pub acked : ℕ
  pub edge : ℕ
  -- octets that may be in flight: the congestion window less one payload
  pub window : ℕ
  -- 1 once it may send bytes; 1 once each of its segments may have a DSS
  pub ready : ℕ
  pub clear : ℕ
  -- the last grant was refused since the window is shut
  pub shut : Bool
  -- 1 once it knows where the stream ends; 1 once it sent a DATA_FIN
  pub known : ℕ
  pub data_fin_sent : ℕ
  -- how many of SYN and FIN were sent, and were acknowledged
  pub control_sent : ℕ
  pub control_acked : ℕ
  -- 1 once the keys were shown
  pub keys_sent : ℕ
  -- the tick at which the retransmission timer runs out
  pub timer : Option ℕ
  -- duplicate acknowledgements in a row (RFC 5681, section 2), and what the last segment that was heard told
  pub row : ℕ
  pub heard : Telling

-- The end that receives the bytes, with the reassembly book of its side.
pub record Receiver : Type 0 where
  -- bytes that were placed: they came in order
  pub received : ℕ
  -- 1 once a DATA_FIN came; how many of SYN and FIN came; 1 once the keys came
  pub data_fin_came : ℕ
  pub control_came : ℕ
  pub keys_came : ℕ
  -- what the book last answered to the question of what is acknowledged, and with which edge of the window
  pub next : ℕ
  pub limit : ℕ
  -- what its last segment told
  pub told : Telling
  -- 1 once it sent a DATA_FIN of its own
  pub said : ℕ

-- The segments on the way, each list in order of sending.
pub record Way : Type 0 where
  -- to the receiving end
  pub datas : List Copy
  -- to the sending end
  pub acks : List Copy

pub record Lane : Type 0 where
  pub writer : Writer
  pub open writer use *
  pub reader : Reader
  pub open reader use *
  pub sender : Sender
  pub open sender use *
  pub receiver : Receiver
  pub open receiver use *
  pub way : Way
  pub open way use *
  -- the tick it is, and the tick at which the round ends
  pub clock : ℕ
  pub until : ℕ

-- 1 where the DATA_FIN came and all bytes before it
abbrev pub is_whole : Setting → Lane → ℕ
is_whole k w = min w.data_fin_came ((w.received + 1) - k.total)

-- the Data ACK that may be told: a DATA_FIN counts as one place after the bytes (RFC 8684, section 3.3.3)
abbrev pub data_ack : Setting → Lane → ℕ
data_ack k w = w.received + is_whole k w

-- the edge of the window that may be told
abbrev pub window_edge : Setting → Lane → ℕ
window_edge k w = w.read + k.buffer + is_whole k w

-- What is still to be done of the path's turn for this direction.
pub record Stage : Type 0 where
  -- something came since the reassembly book was asked what is acknowledged
  pub ask : Bool
  -- an answer to what came is owed
  pub tell : Bool
  -- the book is still to be asked for the window; an update of it may still be sent
  pub window : Bool
  pub update : Bool
  -- bytes may still be sent; a DATA_FIN may
  pub emit : Bool
  pub finish : Bool
  -- segments may still arrive in this round
  pub wait : Bool

-- as a turn begins, and as it ends
abbrev pub all_left : Stage
all_left = record { ask = true; tell = false; window = true; update = true; emit = true; finish = true; wait = true }

abbrev pub none_left : Stage
none_left = record { ask = false; tell = false; window = false; update = false; emit = false; finish = false; wait = false }
