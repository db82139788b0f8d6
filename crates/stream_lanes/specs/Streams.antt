-- One direction of a connection: the writer's send book, the reader's reassembly book, a lane for each path, and what the
-- reader got. Every call of the two books is an event.
use Rattle.std.specs.Prelude.{ℕ, Bool, true, false, ◌&&◌, ◌||◌, ◌==◌, nat_lt, nat_le, suc, if◌then◌else◌, Option, Some, None, List, [], ◌∷◌, ◌++◌, length, take, drop, replicate, slice_get, slice_set}
use Rattle.std.specs.List.{list_all}
use Rattle.send_book.specs.declared.call.SendCall.{SendCall}
use Rattle.send_book.specs.declared.call.SendCall.TheVariants.{Grant, AckIn}
use Rattle.send_book.specs.declared.call.SendCall.TheVariants.{Write as WriteBytes, Close as CloseBook, Return as ReturnBytes, GoIdentity as GoIdentityBook, GoInfinite as GoInfiniteBook, Abort as AbortBook}
use Rattle.send_book.specs.State.{Sending, new_sending as opened_send, acked_len}
use Rattle.send_book.specs.Steps.{reply_to as send_reply, after_call as after_send, is_gathered}
use Rattle.reassembly_book.specs.declared.call.ReassemblyCall.{ReassemblyCall}
use Rattle.reassembly_book.specs.declared.call.ReassemblyCall.TheVariants.{Place, Fin, AckOut}
use Rattle.reassembly_book.specs.declared.call.ReassemblyCall.TheVariants.{Read as ReadBytes, Abort as AbortReading}
use Rattle.reassembly_book.specs.declared.call.ReassemblyReply.{ReassemblyReply}
use Rattle.reassembly_book.specs.declared.call.ReassemblyReply.TheVariants.{Bytes, End, Aborted}
use Rattle.reassembly_book.specs.State.{Arriving, new_arriving as opened_arriving}
use Rattle.reassembly_book.specs.Steps.{reply_to as arrival_reply, after_call as after_arrival}
use Rattle.stream_lanes.specs.Lane.{Cell, Ask, Lane, lane_over}
use Rattle.stream_lanes.specs.Lane.Ask.{Nothing, AskGrant, AskAckIn, AskPlace, AskFin, AskAckOut}
use Rattle.stream_lanes.specs.Moves.{Flags, Move, moved, takes_grant, takes_ack, takes_placed, takes_fin, takes_ack_out}

-- what a reader got: the bytes, whether it was told the end, and whether it was told that the connection is aborted
pub record Reader : Type 0 where
  pub out : List ℕ
  pub told : Bool
  pub stopped : Bool

pub record Direction : Type 0 where
  pub send : Sending
  pub arrived : Arriving
  pub lanes : List Lane
  pub reader : Reader

pub data StreamEvent : Type 0 where
  -- the application of the writer's side
  Write : (bytes : List ℕ) → StreamEvent
  Close : StreamEvent
  -- a path gives back what it holds
  Return : (path : ℕ) → StreamEvent
  -- the send book is given to one path alone: where the writer's side fell back to plain TCP, or where an infinite mapping
  -- that begins at a position of the path's record is right
  GoIdentity : StreamEvent
  GoInfinite : (path pos : ℕ) → StreamEvent
  AbortSend : StreamEvent
  -- the application of the reader's side
  Read : (max : ℕ) → StreamEvent
  AbortRead : (by_peer : Bool) → StreamEvent
  -- a lane moves by itself, or makes its ask
  Moves : (path : ℕ) (move : Move) → StreamEvent
  Asks : (path : ℕ) → StreamEvent

-- what the reader makes of a reply
abbrev pub takes_read : ReassemblyReply → Reader → Reader
takes_read (Bytes bytes) r = record r { out = r.out ++ bytes }
takes_read End r = record r { told = true }
takes_read (Aborted by_peer) r = record r { stopped = true }
takes_read _ r = r

-- after the end or an abort a reader reads no more
abbrev pub is_done : Reader → Bool
is_done r = r.told || r.stopped

-- the reader asks for so many bytes at most
abbrev pub reads : ℕ → Direction → Direction
reads max d = record d {
  arrived = after_arrival d.arrived (ReadBytes max);
  reader = takes_read (arrival_reply d.arrived (ReadBytes max)) d.reader;
}

abbrev pub with_send : SendCall → Direction → Direction
with_send call d = record d { send = after_send d.send call }

-- a lane moves
abbrev pub moves : Flags → ℕ → Move → Option Lane → Direction → Direction
moves f path move None d = d
moves f path move (Some p) d = record d { lanes = slice_set d.lanes path (moved f path move p) }

-- a lane asks a book, which answers, and takes the reply
abbrev pub asks_send : ℕ → SendCall → Lane → Direction → Direction
asks_send path call p d = record d { send = after_send d.send call; lanes = slice_set d.lanes path p }

abbrev pub asks_arrival : ℕ → ReassemblyCall → Lane → Direction → Direction
asks_arrival path call p d = record d { arrived = after_arrival d.arrived call; lanes = slice_set d.lanes path p }

abbrev pub asks : ℕ → Ask → Lane → Direction → Direction
asks path Nothing p d = d
asks path (AskGrant max standby) p d =
    asks_send path (Grant path max standby) (takes_grant (send_reply d.send (Grant path max standby)) p) d
asks path (AskAckIn next window) p d =
    asks_send path (AckIn next window) (takes_ack next (send_reply d.send (AckIn next window)) p) d
asks path (AskPlace at bytes) p d =
    asks_arrival path (Place at bytes) (takes_placed (length bytes) (arrival_reply d.arrived (Place at bytes)) p) d
asks path (AskFin at) p d = asks_arrival path (Fin at) (takes_fin (arrival_reply d.arrived (Fin at)) p) d
asks path AskAckOut p d = asks_arrival path AckOut (takes_ack_out (arrival_reply d.arrived AckOut) p) d

abbrev pub asks_at : ℕ → Option Lane → Direction → Direction
asks_at path None d = d
asks_at path (Some p) d = asks path p.asking p d

-- the places of these bytes rise by one from a place on
abbrev pub rises : ℕ → List Cell → Bool
rises place [] = true
rises place (c ∷ cells) = (c.place == place) && rises (suc place) cells

-- An infinite mapping that begins at a position of the record with the first place that isn't acknowledged is right: the
-- book gives itself to the path, the bytes before that position are acknowledged, and from there on places rise by one.
abbrev pub may_go : ℕ → ℕ → Sending → Lane → Bool
may_go path pos s p =
    p.opened && (is_gathered path s && (nat_le pos (length p.sent)
    && (list_all (λ c. nat_lt c.place (acked_len s.marks)) (take pos p.sent) && rises (acked_len s.marks) (drop pos p.sent))))

-- a path that may go by an infinite mapping does, and the book is given to it alone; else nothing changes
abbrev pub goes_infinite : ℕ → ℕ → Option Lane → Direction → Direction
goes_infinite path pos None d = d
goes_infinite path pos (Some p) d =
    if may_go path pos d.send p
    then record d {
      send = after_send d.send (GoInfiniteBook path);
      lanes = slice_set d.lanes path (record p { pair = Some (record { pos = pos; place = acked_len d.send.marks }) });
    } else d

-- the direction after an event
abbrev pub after : Flags → StreamEvent → Direction → Direction
after f (Write bytes) d = with_send (WriteBytes bytes) d
after f Close d = with_send CloseBook d
after f (Return path) d = with_send (ReturnBytes path) d
after f GoIdentity d = if f.sender then with_send GoIdentityBook d else d
after f (GoInfinite path pos) d = goes_infinite path pos (slice_get d.lanes path) d
after f AbortSend d = with_send AbortBook d
after f (Read max) d = if is_done d.reader then d else reads max d
after f (AbortRead by_peer) d = record d { arrived = after_arrival d.arrived (AbortReading by_peer) }
after f (Moves path move) d = moves f path move (slice_get d.lanes path) d
after f (Asks path) d = asks_at path (slice_get d.lanes path) d

-- a direction with a number of paths, none of which has sent anything
abbrev pub opening_direction : Bool → Bool → ℕ → ℕ → ℕ → Direction
opening_direction alters checked paths buffer capacity = record {
  send = opened_send buffer;
  arrived = opened_arriving capacity;
  lanes = replicate paths (lane_over alters checked);
  reader = record { out = []; told = false; stopped = false };
}
