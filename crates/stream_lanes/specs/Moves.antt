-- What a lane does by itself, and what its ends make of a book's reply. A move names a copy by its number among those
-- that were ever sent: one that is never named was lost, and one that is named twice came twice, late or out of order.
use Rattle.std.specs.Prelude.{ℕ, suc, ◌+◌, ◌-◌, min, max, Bool, true, false, not, ◌&&◌, ◌||◌, ◌==◌, nat_lt, nat_le, if◌then◌else◌, Option, Some, None, List, [], ◌∷◌, ◌++◌, length, map, take, drop, slice_get}
use Rattle.send_book.specs.declared.call.SendReply.{SendReply}
use Rattle.send_book.specs.declared.call.SendReply.TheVariants.{Granted, NoGrant}
use Rattle.send_book.specs.declared.call.SendReply.TheVariants.{Acked as AckedBytes}
use Rattle.reassembly_book.specs.declared.call.ReassemblyReply.{ReassemblyReply}
use Rattle.reassembly_book.specs.declared.call.ReassemblyReply.TheVariants.{Placed, FinSet, Ack}
use Rattle.reassembly_book.specs.State.{filled}
use Rattle.reassembly_book.specs.Steps.{by_place, merged}
use Rattle.ones_sum.specs.Words.{with_bit_turned}
use Rattle.stream_lanes.specs.Lane.{Cell, Mapping, Pair, DataCopy, AckCopy, Lane}
use Rattle.stream_lanes.specs.Lane.Ask.{Nothing, AskGrant, AskAckIn, AskPlace, AskFin, AskAckOut}

-- what the two sides know of each other, as far as this direction needs it: whether a join was answered, whether the
-- sender's side and the receiver's side fell back to plain TCP, and whether the receiver's fell to an infinite mapping
pub record Flags : Type 0 where
  pub answered : Bool
  pub sender : Bool
  pub receiver : Bool
  pub loose : Bool
  -- whether links may alter payload, and whether mappings are checked
  pub alters : Bool
  pub checked : Bool

pub data Move : Type 0 where
  -- the sender's end may ask for bytes from now on: on path 0, and on others once a join was answered
  Open : Move
  -- the ends learn whether their sides fell back
  LookAtSender : Move
  LookAtReceiver : Move
  -- the sender's end is about to ask for bytes
  WantGrant : (max : ℕ) (standby : Bool) → Move
  -- the sender's end hears an acknowledgement, or takes what the subflow acknowledges up to a position by its infinite
  -- mapping
  HearAck : (copy : ℕ) → Move
  HearSubAck : (copy upto : ℕ) → Move
  -- the sender's end sends the bytes of a grant, for the first time or again, with its mapping or without
  SendPiece : (piece : ℕ) (mapped : Bool) → Move
  -- the sender's end sends the bytes of a grant, and the link turns the lowest bit of the first byte
  SendAltered : (piece : ℕ) (mapped : Bool) → Move
  SendDataFin : Move
  SendFin : Move
  -- the sender's end sends its infinite mapping, from some positions further on, or in plain TCP that of a position,
  -- and a FIN by it
  SendPair : (shift : ℕ) → Move
  SendPlainPair : (pos : ℕ) → Move
  SendFinPair : Move
  -- the receiver's end hears the first so many bytes of a copy, learns the mapping of one, hears a DATA_FIN or a FIN
  Hear : (copy count : ℕ) → Move
  Learn : (copy : ℕ) → Move
  HearDataFin : (copy : ℕ) → Move
  HearFin : (copy : ℕ) → Move
  -- the receiver's end forgets all bytes that came from a position on
  Forget : (from : ℕ) → Move
  -- the receiver's end is about to place some of the bytes that came in order, by a mapping or, in plain TCP, by their
  -- positions
  WantPlace : (mapping count : ℕ) → Move
  WantPlacePlain : (count : ℕ) → Move
  -- the receiver's end is about to take the FIN for the end of the stream, in plain TCP
  WantFin : Move
  -- the receiver's end takes an infinite mapping, and is about to place bytes, or to take the FIN for the end, by it
  TakePair : (copy : ℕ) → Move
  WantPlacePair : (count : ℕ) → Move
  WantFinPair : Move
  WantAckOut : Move
  -- the receiver's end acknowledges what it was told at the last time, or less, with a window as large or smaller
  SendAck : (next window sub : ℕ) → Move

-- the bytes and the places of a record, by position
abbrev pub bytes_of : List Cell → List ℕ
bytes_of sent = map (λ c. c.byte) sent

abbrev pub places_of : List Cell → List ℕ
places_of sent = map (λ c. c.place) sent

-- bytes with the places from one on
abbrev pub cells_from : ℕ → List ℕ → List Cell
cells_from place [] = []
cells_from place (byte ∷ bytes) = record { place = place; byte = byte } ∷ cells_from (suc place) bytes

-- the place after the last byte of a record
abbrev pub place_after : ℕ → List Cell → ℕ
place_after before [] = before
place_after before (c ∷ cells) = place_after (suc c.place) cells

-- DATA_FIN goes out where the end is known
abbrev pub known : Option ℕ → List ℕ
known None = []
known (Some e) = e ∷ []

-- in plain TCP a FIN goes out where all bytes were granted to the path, or all were acknowledged; else once DATA_FIN is
-- acknowledged
abbrev pub is_whole : Option ℕ → Lane → Bool
is_whole None p = false
is_whole (Some e) p = max (place_after 0 p.sent) (min p.heard e) == e

abbrev pub may_finish : Lane → Bool
may_finish p = p.opened && (if p.sender_plain then is_whole p.known_end p else p.fin_acked)

-- the bytes of a record that a mapping names
abbrev pub part_of : List Cell → Mapping → List ℕ
part_of sent m = take m.len (drop m.pos (bytes_of sent))

-- a copy with the bytes of a grant, with its mapping or without
abbrev pub piece_of : Bool → Lane → Mapping → DataCopy
piece_of mapped p m = record {
  pos = m.pos;
  bytes = take m.len (drop m.pos (bytes_of p.sent));
  mapping = if mapped then Some m else None;
}

-- a copy with the bytes of a grant, altered on the way: the lowest bit of its first byte is turned
abbrev pub altered_piece_of : Bool → Lane → Mapping → DataCopy
altered_piece_of mapped p m = record {
  pos = m.pos;
  bytes = with_bit_turned (part_of p.sent m) 0 0;
  mapping = if mapped then Some m else None;
}

-- two mappings give one position different places
abbrev pub disagree : Mapping → Mapping → Bool
disagree m n = nat_lt (max m.pos n.pos) (min (m.pos + m.len) (n.pos + n.len)) && not (m.place + n.pos == n.place + m.pos)

abbrev pub clashes : Mapping → List Mapping → Bool
clashes m [] = false
clashes m (n ∷ maps) = disagree m n || clashes m maps

-- what an acknowledgement says to the book: that of the stream, or that of the subflow where it stands for it
abbrev pub hears : Option AckCopy → Lane → Lane
hears None p = p
hears (Some a) p = record p { asking = AskAckIn (if p.sender_plain then a.sub else a.next) a.window }

abbrev pub sends_piece : Bool → Option Mapping → Lane → Lane
sends_piece mapped None p = p
sends_piece mapped (Some m) p = record p { datas = p.datas ++ piece_of mapped p m ∷ [] }

-- a copy is altered only over links that alter payload
abbrev pub sends_altered : Bool → Option Mapping → Lane → Lane
sends_altered mapped None p = p
sends_altered mapped (Some m) p = if p.alters then record p { datas = p.datas ++ altered_piece_of mapped p m ∷ [] } else p

-- a byte that came first for its position stays
abbrev pub keeps : ℕ → Option DataCopy → Lane → Lane
keeps count None p = p
keeps count (Some d) p = record p { kept = merged p.kept (drop p.edge (by_place d.pos (take count d.bytes))) }

-- a mapping that clashes with one that was learned isn't learned
abbrev pub learns_mapping : Option Mapping → Lane → Lane
learns_mapping None p = p
learns_mapping (Some m) p = if clashes m p.maps then p else record p { maps = p.maps ++ m ∷ [] }

abbrev pub learns : Option DataCopy → Lane → Lane
learns None p = p
learns (Some d) p = learns_mapping d.mapping p

-- the end that it names is to be told
abbrev pub hears_data_fin : Option ℕ → Lane → Lane
hears_data_fin None p = p
hears_data_fin (Some e) p = record p { asking = AskFin e }

-- a FIN counts where every byte before it has come
abbrev pub hears_fin : Option ℕ → Lane → Lane
hears_fin None p = p
hears_fin (Some pos) p = if pos == p.edge then record p { fin_in = true } else p

-- the bytes that came in order, and no more than so many
abbrev pub in_order : ℕ → Lane → List ℕ
in_order count p = take count (filled p.kept)

-- the bytes from the edge on are all in the mapping
abbrev pub lies_in : Mapping → List ℕ → Lane → Bool
lies_in m bytes p = nat_le m.pos p.edge && nat_le (p.edge + length bytes) (m.pos + m.len)

-- both have the same bytes
abbrev pub are_same : List ℕ → List ℕ → Bool
are_same [] [] = true
are_same (x ∷ xs) (y ∷ ys) = (x == y) && are_same xs ys
are_same _ _ = false

-- where mappings are checked, the bytes are all of the mapping's, as they were sent
abbrev pub passes : Mapping → List ℕ → Lane → Bool
passes m bytes p = not p.checked || ((m.pos == p.edge) && are_same bytes (part_of p.sent m))

-- bytes that lie in the mapping and pass its check are to be placed
abbrev pub places : ℕ → Option Mapping → Lane → Lane
places count None p = p
places count (Some m) p =
    if lies_in m (in_order count p) p && passes m (in_order count p) p
    then record p { asking = AskPlace (m.place + (p.edge - m.pos)) (in_order count p) } else p

-- the place of a position by an infinite mapping, and the same mapping from later positions on
abbrev pub place_by : Pair → ℕ → ℕ
place_by m pos = m.place + (pos - m.pos)

abbrev pub shifted : ℕ → Pair → Pair
shifted shift m = record { pos = m.pos + shift; place = m.place + shift }

-- over links that alter payload what the subflow acknowledges stands for what the stream does
abbrev pub hears_sub : ℕ → Option AckCopy → Option Pair → Lane → Lane
hears_sub upto (Some a) (Some m) p = if p.alters then record p { asking = AskAckIn (place_by m (min upto a.sub)) a.window } else p
hears_sub upto _ _ p = p

-- the mapping begins at a position of the record, or just behind it
abbrev pub sends_pair : ℕ → Option Pair → Lane → Lane
sends_pair shift None p = p
sends_pair shift (Some m) p = if nat_le (m.pos + shift) (length p.sent) then record p { pairs = p.pairs ++ shifted shift m ∷ [] } else p

-- in plain TCP places are positions
abbrev pub sends_plain_pair : ℕ → Lane → Lane
sends_plain_pair pos p =
    if p.sender_plain && (p.opened && nat_le pos (length p.sent)) then record p { pairs = p.pairs ++ record { pos = pos; place = pos } ∷ [] } else p

-- by an infinite mapping the FIN goes out where all bytes were granted to the path, or all were acknowledged
abbrev pub sends_fin_pair : Option Pair → Lane → Lane
sends_fin_pair None p = p
sends_fin_pair (Some m) p = if p.opened && is_whole p.known_end p then record p { fins = p.fins ++ length p.sent ∷ [] } else p

abbrev pub takes_pair : Option Pair → Lane → Lane
takes_pair None p = p
takes_pair (Some m) p = record p { taken = Some m }

-- a side that fell to an infinite mapping goes by it from its position on
abbrev pub places_pair : ℕ → Option Pair → Lane → Lane
places_pair count None p = p
places_pair count (Some m) p =
    if p.receiver_loose && nat_le m.pos p.edge then record p { asking = AskPlace (place_by m p.edge) (in_order count p) } else p

-- a side that fell to an infinite mapping takes a FIN that came in order for the end, from its position on
abbrev pub ends_pair : Option Pair → Lane → Lane
ends_pair None p = p
ends_pair (Some m) p = if p.receiver_loose && (p.fin_in && nat_le m.pos p.edge) then record p { asking = AskFin (place_by m p.edge) } else p

-- how many numbers of the path are acknowledged: its bytes, and the FIN
abbrev pub sub_next : Lane → ℕ
sub_next p = p.edge + (if p.fin_in then 1 else 0)

-- at most what was told last, and of the subflow at most what came
abbrev pub ack_copy : ℕ → ℕ → ℕ → Lane → AckCopy
ack_copy next window sub p = record {
  next = min next p.latest.next;
  window = min window p.latest.window;
  sub = min sub (sub_next p);
}

-- the lane after a move; a move that isn't allowed changes nothing
abbrev pub moved : Flags → ℕ → Move → Lane → Lane
moved f path Open p = if f.answered || path == 0 then record p { opened = true } else p
moved f path LookAtSender p = record p { sender_plain = f.sender }
moved f path LookAtReceiver p = record p { receiver_plain = f.receiver; receiver_loose = f.loose }
moved f path (WantGrant max standby) p = if p.opened && nat_lt 0 max then record p { asking = AskGrant max standby } else p
moved f path (HearAck copy) p = hears (slice_get p.acks copy) p
moved f path (HearSubAck copy upto) p = hears_sub upto (slice_get p.acks copy) p.pair p
moved f path (SendPiece piece mapped) p = sends_piece mapped (slice_get p.pieces piece) p
moved f path (SendAltered piece mapped) p = sends_altered mapped (slice_get p.pieces piece) p
moved f path SendDataFin p = record p { data_fins = p.data_fins ++ known p.known_end }
moved f path SendFin p = if may_finish p then record p { fins = p.fins ++ length p.sent ∷ [] } else p
moved f path (SendPair shift) p = sends_pair shift p.pair p
moved f path (SendPlainPair pos) p = sends_plain_pair pos p
moved f path SendFinPair p = sends_fin_pair p.pair p
moved f path (Hear copy count) p = keeps count (slice_get p.datas copy) p
moved f path (Learn copy) p = learns (slice_get p.datas copy) p
moved f path (HearDataFin copy) p = hears_data_fin (slice_get p.data_fins copy) p
moved f path (HearFin copy) p = hears_fin (slice_get p.fins copy) p
moved f path (Forget from) p = record p { kept = take (from - p.edge) p.kept }
moved f path (WantPlace mapping count) p = places count (slice_get p.maps mapping) p
moved f path (WantPlacePlain count) p = if p.receiver_plain then record p { asking = AskPlace p.edge (in_order count p) } else p
moved f path WantFin p = if p.receiver_plain && p.fin_in then record p { asking = AskFin p.edge } else p
moved f path (TakePair copy) p = takes_pair (slice_get p.pairs copy) p
moved f path (WantPlacePair count) p = places_pair count p.taken p
moved f path WantFinPair p = ends_pair p.taken p
moved f path WantAckOut p = record p { asking = AskAckOut }
moved f path (SendAck next window sub) p = if p.due then p else record p { acks = p.acks ++ ack_copy next window sub p ∷ [] }

-- what was told last
abbrev pub later_end : Option ℕ → Option ℕ → Option ℕ
later_end None before = before
later_end (Some e) before = Some e

-- what an end makes of the reply to its grant, to an acknowledgement, to bytes, to an end and to AckOut
abbrev pub takes_grant : SendReply → Lane → Lane
takes_grant (Granted span piece) p = record p {
  sent = p.sent ++ cells_from span.from piece;
  pieces = p.pieces ++ record { pos = length p.sent; place = span.from; len = length piece } ∷ [];
  asking = Nothing;
}
takes_grant (NoGrant why end) p = record p { known_end = later_end end p.known_end; asking = Nothing }
takes_grant _ p = record p { asking = Nothing }

abbrev pub takes_ack : ℕ → SendReply → Lane → Lane
takes_ack next (AckedBytes bytes fin) p = record p { heard = max p.heard next; fin_acked = p.fin_acked || fin; asking = Nothing }
takes_ack next _ p = record p { asking = Nothing }

abbrev pub takes_placed : ℕ → ReassemblyReply → Lane → Lane
takes_placed count (Placed new) p = record p { edge = p.edge + count; kept = drop count p.kept; due = true; asking = Nothing }
takes_placed count _ p = record p { asking = Nothing }

abbrev pub takes_fin : ReassemblyReply → Lane → Lane
takes_fin FinSet p = record p { due = true; asking = Nothing }
takes_fin _ p = record p { asking = Nothing }

abbrev pub takes_ack_out : ReassemblyReply → Lane → Lane
takes_ack_out (Ack next window) p = record p { latest = record { next = next; window = window }; due = false; asking = Nothing }
takes_ack_out _ p = record p { asking = Nothing }
