-- A lane: one direction of one path of a connection, with all that its two ends keep and all that was ever sent on it
-- (RFC 8684, section 3.3). Positions count the bytes of the path from 0, places those of the stream.
use Rattle.std.specs.Prelude.{ℕ, Bool, false, Option, None, List, []}

-- a byte that a path was granted: its place in the stream, and itself
pub record Cell : Type 0 where
  pub place : ℕ
  pub byte : ℕ

-- bytes from the position `pos` on, `len` of them, have the places from `place` on
pub record Mapping : Type 0 where
  pub pos : ℕ
  pub place : ℕ
  pub len : ℕ

-- an infinite mapping: the positions from `pos` on have the places from `place` on (RFC 8684, section 3.7)
pub record Pair : Type 0 where
  pub pos : ℕ
  pub place : ℕ

-- a segment with data, or what is left of it where its options were taken off
pub record DataCopy : Type 0 where
  pub pos : ℕ
  pub bytes : List ℕ
  pub mapping : Option Mapping

-- an acknowledgement: the place that is wanted next, how many bytes are taken from there on, the position wanted next
pub record AckCopy : Type 0 where
  pub next : ℕ
  pub window : ℕ
  pub sub : ℕ

-- what a book said is to be acknowledged
pub record Told : Type 0 where
  pub next : ℕ
  pub window : ℕ

-- what an end is about to ask a book
pub data Ask : Type 0 where
  Nothing : Ask
  AskGrant : (max : ℕ) (standby : Bool) → Ask
  AskAckIn : (next window : ℕ) → Ask
  AskPlace : (at : ℕ) (bytes : List ℕ) → Ask
  AskFin : (at : ℕ) → Ask
  AskAckOut : Ask

pub record Lane : Type 0 where
  -- whether links may alter payload, and whether mappings are checked: neither ever changes
  pub alters : Bool
  pub checked : Bool
  -- the sender's end may ask for bytes
  pub opened : Bool
  -- every byte that it was granted, by position
  pub sent : List Cell
  -- the mapping of each grant
  pub pieces : List Mapping
  -- how many bytes the stream has, where the end was told so
  pub known_end : Option ℕ
  -- the greatest place up to which the book took its acknowledgements
  pub heard : ℕ
  -- the sender's end was told that DATA_FIN is acknowledged
  pub fin_acked : Bool
  -- the sender's end knows that its side fell back to plain TCP
  pub sender_plain : Bool
  -- the infinite mapping that it goes by since its book is its alone, and those ever sent
  pub pair : Option Pair
  pub pairs : List Pair
  -- every copy ever sent: data, DATA_FIN with the end that it names, FIN with its position, acknowledgements
  pub datas : List DataCopy
  pub data_fins : List ℕ
  pub fins : List ℕ
  pub acks : List AckCopy
  -- the receiver's end: all bytes before this position are in the book
  pub edge : ℕ
  -- the bytes that came, from there on
  pub kept : List (Option ℕ)
  -- the mappings that it learned
  pub maps : List Mapping
  -- the receiver's end knows that its side fell back to plain TCP, or to an infinite mapping
  pub receiver_plain : Bool
  pub receiver_loose : Bool
  -- the infinite mapping that it took
  pub taken : Option Pair
  -- the FIN has come in order
  pub fin_in : Bool
  -- the receiver's end has to ask what is to be acknowledged before it sends anything
  pub due : Bool
  -- what the receiver's end was told to acknowledge at the last time
  pub latest : Told
  pub asking : Ask

-- a lane before its first segment
abbrev pub new_lane : Lane
new_lane = record {
  alters = false;
  checked = false;
  opened = false;
  sent = [];
  pieces = [];
  known_end = None;
  heard = 0;
  fin_acked = false;
  sender_plain = false;
  pair = None;
  pairs = [];
  datas = [];
  data_fins = [];
  fins = [];
  acks = [];
  edge = 0;
  kept = [];
  maps = [];
  receiver_plain = false;
  receiver_loose = false;
  taken = None;
  fin_in = false;
  due = false;
  latest = record { next = 0; window = 0 };
  asking = Nothing;
}

-- a lane before its first segment, over links that may alter payload or not, with mappings that are checked or not
abbrev pub lane_over : Bool → Bool → Lane
lane_over alters checked = record new_lane { alters = alters; checked = checked }
