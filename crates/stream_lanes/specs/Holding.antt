-- What holds of a connection at every moment. Each group speaks of a lane's own fields and of the view of the books.
use Rattle.std.specs.Prelude.{ℕ, ◌≡◌, ◌+◌, ◌<◌, ◌≤◌, Bool, true, false, Option, Some, IfSome, List, [], length, take, slice_get, bit_xor, ◌^◌}
use Rattle.send_book.specs.declared.mark.ByteMark.{ByteMark}
use Rattle.send_book.specs.State.{Sending, acked_len}
use Rattle.reassembly_book.specs.State.{Arriving, top}
use Rattle.stream_lanes.specs.Words.{Every, From, Cells, Has}
use Rattle.stream_lanes.specs.Marks.{spent, spent_count, AreAcked, AreNew, tried, IsHeldRightly}
use Rattle.stream_lanes.specs.Lane.{Cell, Mapping, Pair, DataCopy, AckCopy, Told, Ask, Lane}
use Rattle.stream_lanes.specs.Lane.Ask.{Nothing, AskGrant, AskAckIn, AskPlace, AskFin, AskAckOut}
use Rattle.stream_lanes.specs.Moves.{Flags, bytes_of, places_of, place_by}
use Rattle.stream_lanes.specs.Streams.{Reader, Direction}
use Rattle.stream_lanes.specs.Duo.{Modes, Duo, flags_ab, flags_ba}
use Rattle.stream_lanes.specs.View.{View, view_of, IsEnd, IsIn}

-- the stream is closed, and all of its bytes are acknowledged
abbrev pub IsAll : View → Type 0
IsAll v = (e : ℕ) × IsEnd v.end e × (e ≤ v.acked)

-- The send book: one mark a byte, the acknowledged ones first; only received bytes are acknowledged; over links that alter
-- nothing no more may be sent than the receiver takes.
pub record SendHolds (b : Sending) (v : View) : Type 0 where
  pub whole : length b.marks ≡ length b.written
  pub first : AreAcked (acked_len b.marks) b.marks
  pub held : Every IsHeldRightly b.marks
  pub acked : v.acked ≤ v.received
  pub edge : v.alters ≡ false → b.edge ≤ v.edge
  pub fin : b.fin ≡ true → IsAll v

-- a byte at a place: one was written there, and, as long as the receiver is exact, this one; over links that alter nothing
-- the receiver takes it; a path was granted it
pub record IsSent (granted : ℕ → Type 0) (v : View) (place byte : ℕ) : Type 0 where
  pub within : place < length v.written
  pub written : v.exact ≡ true → slice_get v.written place ≡ Some byte
  pub room : v.alters ≡ false → place < v.room
  pub recorded : granted place

-- The reassembly book: each byte in it was sent, and an end is that of the stream.
pub record ArrivedHolds (granted : ℕ → Type 0) (v : View) (b : Arriving) : Type 0 where
  pub top : top b ≤ length v.written
  pub cells : Cells (IsSent granted v) b.read b.places
  pub end : IfSome b.known_end (IsEnd v.end)
  pub before : (place : ℕ) → place < b.read → granted place

-- The reader has as many bytes as were read, and, as long as it is exact, the written ones; the end was told at the end,
-- and not after an abort.
pub record ReaderHolds (v : View) (b : Arriving) (r : Reader) : Type 0 where
  pub size : length r.out ≡ b.read
  pub out : v.exact ≡ true → r.out ≡ take b.read v.written
  pub told : r.told ≡ true → IsEnd v.end b.read
  pub once : r.stopped ≡ true → r.told ≡ false

-- a record has a byte with this place
abbrev pub HasPlace : List Cell → ℕ → Type 0
HasPlace sent place = Has (λ c. c.place ≡ place) sent

-- A path's record: each byte of it is the written one at its place, spent for the path, and, over links that alter nothing, taken by
-- the receiver; it has each byte that the path tried, and is no longer than what was granted to the path once.
pub record CellFits (path : ℕ) (v : View) (c : Cell) : Type 0 where
  pub byte : slice_get v.written c.place ≡ Some c.byte
  pub spent : spent path (slice_get v.marks c.place) ≡ true
  pub room : v.alters ≡ false → c.place < v.room

pub record RecordHolds (path : ℕ) (v : View) (sent : List Cell) : Type 0 where
  pub cells : Every (CellFits path v) sent
  pub tried : (place : ℕ) → tried path (slice_get v.marks place) ≡ true → HasPlace sent place
  pub once : length sent ≤ spent_count path v.marks

-- As long as no join was answered: only path 0 has bytes, each at its own position, and no byte after them was touched.
pub record AloneHolds (path : ℕ) (marks : List ByteMark) (sent : List Cell) : Type 0 where
  pub identity : From (λ pos c. c.place ≡ pos) 0 sent
  pub others : (path ≡ 0 → ⊥) → sent ≡ []
  pub untouched : path ≡ 0 → AreNew (length sent) marks

-- As long as no join was answered only path 0 is open; an end is in plain TCP only where a side fell.
pub record ModeHolds (path : ℕ) (v : View) (opened sender_plain receiver_plain : Bool) : Type 0 where
  pub joined : opened ≡ true → v.alone ≡ true → path ≡ 0
  pub sender : sender_plain ≡ true → v.fallen ≡ true
  pub receiver : receiver_plain ≡ true → v.fallen ≡ true
  -- in plain TCP nothing is checked
  pub inexact : receiver_plain ≡ true → v.exact ≡ true → v.alters ≡ false

-- Bytes and places: what is on the way and what the receiver's end keeps, if no link altered it, is the record's at its position.
abbrev pub IsByteOf : List Cell → ℕ → ℕ → Type 0
IsByteOf sent pos byte = slice_get (bytes_of sent) pos ≡ Some byte

-- a piece begins at this position
abbrev pub Starts : List Mapping → ℕ → Type 0
Starts pieces pos = Has (λ m. m.pos ≡ pos) pieces

-- a byte that came is the record's; or links alter payload, a piece begins there, and the lowest bit is turned
pub data Came (alters : Bool) (pieces : List Mapping) (sent : List Cell) (pos byte : ℕ) : Type 0 where
  as_sent : IsByteOf sent pos byte → Came alters pieces sent pos byte
  turned : alters ≡ true → Starts pieces pos → (old : ℕ) → IsByteOf sent pos old → byte ≡ bit_xor old (2 ^ 0) → Came alters pieces sent pos byte

-- a mapping is that of a grant
abbrev pub IsPiece : List Mapping → Mapping → Type 0
IsPiece pieces m = Has (λ n. n ≡ m) pieces

-- a piece that begins after another one begins after its end
abbrev pub AreApart : List Mapping → Type 0
AreApart pieces = (i j : ℕ) (m n : Mapping) → slice_get pieces i ≡ Some m → slice_get pieces j ≡ Some n → m.pos < n.pos → m.pos + m.len ≤ n.pos

-- a mapping names one byte of the record or more, and the places that it gives them are theirs
pub record IsRight (sent : List Cell) (m : Mapping) : Type 0 where
  pub some : 1 ≤ m.len
  pub within : m.pos + m.len ≤ length sent
  pub places : (j : ℕ) → j < m.len → slice_get (places_of sent) (m.pos + j) ≡ Some (m.place + j)

-- the bytes of a copy are those of the record at its positions, but for bits that links turn; its mapping, if any, is right and a grant's
pub record IsHonest (alters : Bool) (pieces : List Mapping) (sent : List Cell) (d : DataCopy) : Type 0 where
  pub within : d.pos + length d.bytes ≤ length sent
  pub bytes : From (Came alters pieces sent) d.pos d.bytes
  pub mapping : IfSome d.mapping (IsRight sent)
  pub piece : IfSome d.mapping (IsPiece pieces)

-- The grants' mappings are right, and no two overlap that begin apart; every copy sent is honest; what the receiver's end keeps came,
-- and what it learned is right and a grant's. Its edge is within the record, and no acknowledgement is past the FIN.
pub record BytesHold (alters : Bool) (sent : List Cell) (pieces : List Mapping) (datas : List DataCopy) (edge : ℕ) (kept : List (Option ℕ)) (maps : List Mapping) (acks : List AckCopy) : Type 0 where
  pub granted : Every (IsRight sent) pieces
  pub apart : AreApart pieces
  pub honest : Every (IsHonest alters pieces sent) datas
  pub within : edge ≤ length sent
  pub came : Cells (Came alters pieces sent) edge kept
  pub right : Every (IsRight sent) maps
  pub learned : Every (IsPiece pieces) maps
  pub acked : Every (λ a. a.sub ≤ length sent + 1) acks

-- The end: who names it names the length of the closed stream.
pub record EndsHold (end known : Option ℕ) (data_fins : List ℕ) : Type 0 where
  pub told : IfSome known (IsEnd end)
  pub named : Every (IsEnd end) data_fins

-- a FIN stands after the record's last byte, nothing more is granted to its path, and until a join was answered it is the end
pub record IsFin (path : ℕ) (v : View) (sent : List Cell) (pos : ℕ) : Type 0 where
  pub last : pos ≡ length sent
  pub left : (e : ℕ) × IsEnd v.end e × (e ≤ spent_count path v.marks)
  pub ends : v.alone ≡ true → IsEnd v.end pos

-- what the sender's end heard to be acknowledged is so at its book, and DATA_FIN only with all bytes
pub record HeardHolds (v : View) (heard : ℕ) (fin_acked : Bool) : Type 0 where
  pub below : heard ≤ v.confirmed
  pub fin : fin_acked ≡ true → IsAll v

-- Acknowledgements: they cover received bytes, and the end where it was reached; over links that alter nothing they reach
-- with their window no further than the receiver takes.
pub record IsAck (v : View) (next window : ℕ) : Type 0 where
  pub covers : next ≤ v.next
  pub reaches : v.alters ≡ false → next + window ≤ v.edge

-- until a join was answered, what the subflow acknowledges may stand for what the stream does
pub record IsAckCopy (v : View) (a : AckCopy) : Type 0 where
  pub stream : IsAck v a.next a.window
  pub subflow : v.alone ≡ true → IsAck v a.sub a.window

-- What the receiver's end was told last may be acknowledged, and each acknowledgement sent might. Until a join was answered all before
-- its edge is received, a FIN stands at the end, and over links that alter nothing the window has room from there, if no ask is due.
pub record ReceiverHolds (v : View) (edge : ℕ) (fin_in due : Bool) (latest : Told) (acks : List AckCopy) : Type 0 where
  pub told : IsAck v latest.next latest.window
  pub passed : v.alone ≡ true → edge ≤ v.received
  pub fin : v.alone ≡ true → fin_in ≡ true → IsEnd v.end edge
  pub fresh : v.alters ≡ false → v.alone ≡ true → due ≡ false → edge + latest.window ≤ v.room
  pub copies : Every (IsAckCopy v) acks

-- the stream is closed, and the path will be granted nothing more: it was granted each byte that isn't acknowledged
abbrev pub AllGranted : ℕ → View → Type 0
AllGranted path v = (e : ℕ) × IsEnd v.end e × (e ≤ spent_count path v.marks)

-- what the receiver's end passed is in its book, and so is what an acknowledgement of the subflow covers
pub record IsPassed (path : ℕ) (v : View) (sent : List Cell) (upto : ℕ) : Type 0 where
  pub bytes : (pos : ℕ) (c : Cell) → pos < upto → slice_get sent pos ≡ Some c → IsIn v c.place
  pub past : length sent < upto → AllGranted path v

-- what the receiver's end passed holds up to its edge, and up to each acknowledgement sent; a FIN that came stands
-- behind all bytes ever granted
pub record PassedHolds (path : ℕ) (v : View) (sent : List Cell) (edge : ℕ) (fin_in : Bool) (acks : List AckCopy) : Type 0 where
  pub bytes : IsPassed path v sent edge
  pub fin : fin_in ≡ true → (edge ≡ length sent) × AllGranted path v
  pub copies : Every (λ a. IsPassed path v sent a.sub) acks

-- no other path is granted anything: the book was given to the path, or a side fell back to plain TCP
pub data IsAlone (path : ℕ) (v : View) : Type 0 where
  given : v.owner ≡ Some path → IsAlone path v
  fell : path ≡ 0 → v.fallen ≡ true → v.alone ≡ true → IsAlone path v

-- An infinite mapping is right, and stays it: from its position on the places of the record rise by one; all bytes before
-- the place after them are spent for the path, the others are as they were written, and no other path is granted anything.
pub record IsEndless (path : ℕ) (v : View) (sent : List Cell) (m : Pair) : Type 0 where
  pub within : m.pos ≤ length sent
  pub places : (pos : ℕ) (c : Cell) → m.pos ≤ pos → slice_get sent pos ≡ Some c → c.place ≡ place_by m pos
  pub spent : (place : ℕ) → place < place_by m (length sent) → spent path (slice_get v.marks place) ≡ true
  pub rest : AreNew (place_by m (length sent)) v.marks
  pub upto : place_by m (length sent) ≤ length v.written
  pub owner : IsAlone path v

-- the infinite mapping that the sender's end goes by is right, and so are those ever sent and the one that the receiver's end took
pub record PairsHold (path : ℕ) (v : View) (sent : List Cell) (pair : Option Pair) (pairs : List Pair) (taken : Option Pair) : Type 0 where
  -- the one that it goes by begins at an acknowledged place or the next one, and the book was given to the path
  pub own : IfSome pair (λ m. IsEndless path v sent m × (m.place ≤ v.acked) × (v.owner ≡ Some path))
  pub told : Every (IsEndless path v sent) pairs
  pub took : IfSome taken (IsEndless path v sent)

-- The pending ask: what is said of a copy is said of it.
pub record PlaceHolds (v : View) (sent : List Cell) (edge at : ℕ) (bytes : List ℕ) : Type 0 where
  pub cells : (i : ℕ) (c : Cell) → i < length bytes → slice_get sent (edge + i) ≡ Some c → c.place ≡ at + i
  pub each : From (IsSent (HasPlace sent) v) at bytes
  pub within : edge + length bytes ≤ length sent
  pub identity : v.alone ≡ true → 1 ≤ length bytes → at ≡ edge

-- only an open end asks for bytes, for one or more; an acknowledgement, bytes and an end that are told to a book are right
abbrev pub AskHolds : View → List Cell → Bool → ℕ → Ask → Type 0
AskHolds v sent opened edge Nothing = Unit {0}
AskHolds v sent opened edge (AskGrant max standby) = (opened ≡ true) × (1 ≤ max)
AskHolds v sent opened edge (AskAckIn next window) = IsAck v next window
AskHolds v sent opened edge (AskPlace at bytes) = PlaceHolds v sent edge at bytes
AskHolds v sent opened edge (AskFin at) = IsEnd v.end at
AskHolds v sent opened edge AskAckOut = Unit {0}

-- what the lane knows of the links, of the check, and of a fall to an infinite mapping is so
pub record LinkHolds (v : View) (alters checked loose : Bool) : Type 0 where
  pub alters_is : alters ≡ v.alters
  pub checked_is : checked ≡ v.checked
  pub must : v.exact ≡ true → v.alters ≡ true → v.checked ≡ true
  -- by an infinite mapping nothing is checked
  pub inexact : loose ≡ true → v.exact ≡ true → v.alters ≡ false

-- all of this, of the lane of this path
pub record LaneHolds (v : View) (path : ℕ) (p : Lane) : Type 0 where
  pub record_of : RecordHolds path v p.sent
  pub alone : v.alone ≡ true → AloneHolds path v.marks p.sent
  pub modes : ModeHolds path v p.opened p.sender_plain p.receiver_plain
  pub link : LinkHolds v p.alters p.checked p.receiver_loose
  pub passed : PassedHolds path v p.sent p.edge p.fin_in p.acks
  pub pairs : PairsHold path v p.sent p.pair p.pairs p.taken
  pub bytes : BytesHold p.alters p.sent p.pieces p.datas p.edge p.kept p.maps p.acks
  pub ends : EndsHold v.end p.known_end p.data_fins
  pub fins : Every (IsFin path v p.sent) p.fins
  pub heard : HeardHolds v p.heard p.fin_acked
  pub receiver : ReceiverHolds v p.edge p.fin_in p.due p.latest p.acks
  pub ask : AskHolds v p.sent p.opened p.edge p.asking

-- some path was granted the byte at this place
abbrev pub IsGranted : List Lane → ℕ → Type 0
IsGranted lanes place = Has (λ p. HasPlace p.sent place) lanes

-- as long as no join was answered the book is given to path 0 alone
abbrev pub IsOwnedBy : View → Type 0
IsOwnedBy v = (path : ℕ) → v.owner ≡ Some path → v.alone ≡ true → path ≡ 0

-- one direction: both books, the reader, and the lane of each path
pub record DirectionHolds (f : Flags) (d : Direction) : Type 0 where
  pub owner : IsOwnedBy (view_of f d.send d.arrived)
  pub send : SendHolds d.send (view_of f d.send d.arrived)
  pub arrived : ArrivedHolds (IsGranted d.lanes) (view_of f d.send d.arrived) d.arrived
  pub reader : ReaderHolds (view_of f d.send d.arrived) d.arrived d.reader
  pub lanes : From (LaneHolds (view_of f d.send d.arrived)) 0 d.lanes

-- Where A fell it began no join, and where B fell it answered none; a join is answered only where one was begun.
pub record ModesHold (m : Modes) : Type 0 where
  pub a : m.plain_a ≡ true → m.begun ≡ false
  pub b : m.plain_b ≡ true → m.answered ≡ false
  pub sent : m.join_sent ≡ true → m.begun ≡ true
  pub answered : m.answered ≡ true → m.begun ≡ true

-- the whole connection
pub record Holds (w : Duo) : Type 0 where
  pub modes : ModesHold w.modes
  pub ab : DirectionHolds (flags_ab w.modes) w.ab
  pub ba : DirectionHolds (flags_ba w.modes) w.ba
