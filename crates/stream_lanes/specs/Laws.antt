-- What is promised of a connection over every list of events.
use Rattle.std.specs.Prelude.{ℕ, ◌≡◌, ◌+◌, ◌<◌, ◌≤◌, Bool, true, false, not, ◌||◌, nat_lt, if◌then◌else◌, Option, Some, None, List, [], length, slice_get, IfSome, ◌^◌, ◌-◌}
use Rattle.pipe_model.specs.declared.pipe.Pipe.{Pipe}
use Rattle.pipe_model.specs.declared.pipe.PipeStep.{PipeStep}
use Rattle.pipe_model.specs.declared.pipe.PipeStep.TheVariants.{Ack as AckStep}
use Rattle.pipe_model.specs.Pipe.{refusal, after as after_step}
use Rattle.octet_text.specs.Prefix.{IsPrefix}
use Rattle.send_book.specs.declared.call.SendCall.TheVariants.{AckIn}
use Rattle.send_book.specs.declared.call.SendReply.{SendReply}
use Rattle.send_book.specs.declared.call.SendReply.TheVariants.{AckFuture}
use Rattle.send_book.specs.State.{acked_len, Tile}
use Rattle.send_book.specs.Laws.{IsAckedAt}
use Rattle.send_book.specs.Steps.{reply_to as send_reply}
use Rattle.reassembly_book.specs.declared.call.ReassemblyCall.TheVariants.{Place, Fin}
use Rattle.reassembly_book.specs.declared.call.ReassemblyReply.{ReassemblyReply}
use Rattle.reassembly_book.specs.declared.call.ReassemblyReply.TheVariants.{Beyond, FinClash}
use Rattle.reassembly_book.specs.State.{received}
use Rattle.reassembly_book.specs.Steps.{reply_to as arrival_reply}
use Rattle.seq_units.specs.declared.mapping.Mapping.{Mapping as Summed}
use Rattle.dss_checksum.specs.Checksum.{dss_checksum}
use Rattle.stream_lanes.specs.Words.{Every, From}
use Rattle.stream_lanes.specs.Marks.{spent, tried}
use Rattle.stream_lanes.specs.Holding.{HasPlace}
use Rattle.stream_lanes.specs.Lane.{Mapping, Pair, DataCopy, Ask, Lane}
use Rattle.stream_lanes.specs.Lane.Ask.{AskAckIn, AskPlace, AskFin}
use Rattle.stream_lanes.specs.Moves.{Move, clashes, in_order, part_of, places_of, place_by}
use Rattle.stream_lanes.specs.Moves.Move.{Learn}
use Rattle.stream_lanes.specs.Streams.{Direction, StreamEvent}
use Rattle.stream_lanes.specs.Streams.StreamEvent.{Moves, Asks}
use Rattle.stream_lanes.specs.Duo.{Modes, Duo, Event, after_event, after_events, opening, opening_over}

-- P holds of a connection over links that alter nothing at every moment, whatever happens to it
abbrev pub Always : (Duo → Type 0) → Type 0
Always P = (paths buffer capacity : ℕ) (events : List Event) → P (after_events events (opening paths buffer capacity))

-- P holds at every moment of a connection over links that may alter payload, where mappings are checked
abbrev pub AlwaysChecked : (Duo → Type 0) → Type 0
AlwaysChecked P = (paths buffer capacity : ℕ) (events : List Event) → P (after_events events (opening_over true true paths buffer capacity))

-- P holds at every moment of a connection over any links, with mappings that are checked or not
abbrev pub AlwaysAny : (Duo → Type 0) → Type 0
AlwaysAny P = (alters checked : Bool) (paths buffer capacity : ℕ) (events : List Event) → P (after_events events (opening_over alters checked paths buffer capacity))

-- P holds of both directions
abbrev pub BothWays : (Direction → Type 0) → Duo → Type 0
BothWays P w = P w.ab × P w.ba

-- The marks of a send book tile: one a byte, the acknowledged first, each holder among those that tried its byte. Each byte
-- of a path's record is the written one at its place, and acknowledged or tried by the path; and the record has each byte
-- that the path tried.
pub record RecordsAgree (d : Direction) : Type 0 where
  pub tile : Tile d.send
  pub bytes : (path : ℕ) (p : Lane) → slice_get d.lanes path ≡ Some p
      → Every (λ c. (slice_get d.send.written c.place ≡ Some c.byte) × (spent path (slice_get d.send.marks c.place) ≡ true)) p.sent
  pub all : (path : ℕ) (p : Lane) → slice_get d.lanes path ≡ Some p → (place : ℕ) → tried path (slice_get d.send.marks place) ≡ true → HasPlace p.sent place

-- what the reader got is a prefix of what the writer wrote
abbrev pub ReadsAPrefix : Direction → Type 0
ReadsAPrefix d = IsPrefix d.reader.out d.send.written

-- every acknowledged byte was received, and no more was received than was written
pub record AcknowledgesReceivedBytes (d : Direction) : Type 0 where
  pub each : (place : ℕ) → IsAckedAt place d.send → place < received d.arrived
  pub count : acked_len d.send.marks ≤ received d.arrived
  pub written : received d.arrived ≤ length d.send.written
  -- where DATA_FIN is acknowledged, the stream is closed and all of it was received
  pub fin : d.send.fin ≡ true → (d.send.closed ≡ true) × (received d.arrived ≡ length d.send.written)

-- a reader that was told the end has all bytes of a closed stream
abbrev pub EndsAtTheWhole : Direction → Type 0
EndsAtTheWhole d = d.reader.told ≡ true → (d.send.closed ≡ true) × (d.reader.out ≡ d.send.written)

-- nothing is read or written after the end was told
pub record NothingCame (d later : Direction) : Type 0 where
  pub read : later.reader ≡ d.reader
  pub written : later.send.written ≡ d.send.written

-- in both directions nothing is read or written after the end was told, whatever events follow
abbrev pub NothingFollowsTheEnd : Duo → Type 0
NothingFollowsTheEnd w = (more : List Event) → (w.ab.reader.told ≡ true → NothingCame w.ab (after_events more w).ab)
    × (w.ba.reader.told ≡ true → NothingCame w.ba (after_events more w).ba)

-- a reader that was told of an abort is never told the end
abbrev pub AbortedIsNoEnd : Duo → Type 0
AbortedIsNoEnd w = (more : List Event) → (w.ab.reader.stopped ≡ true → (after_events more w).ab.reader.told ≡ false)
    × (w.ba.reader.stopped ≡ true → (after_events more w).ba.reader.told ≡ false)

-- a direction as a pipe
abbrev pub pipe_of : Direction → Pipe
pipe_of d = record {
  written = d.send.written;
  closed = d.send.closed;
  read = d.arrived.read;
  acked = acked_len d.send.marks;
  told_end = d.reader.told;
}

-- a step tells as received what was received
abbrev pub TellsReceived : ℕ → PipeStep → Type 0
TellsReceived count (AckStep to received) = received ≡ count
TellsReceived count _ = Unit {0}

-- one step that the pipe allows
pub record IsStep (count : ℕ) (p q : Pipe) : Type 0 where
  pub step : PipeStep
  pub allowed : refusal step p ≡ None
  pub becomes : q ≡ after_step step p
  pub tells : TellsReceived count step

-- the pipe stays, or makes one step that it allows
pub data StepsOrStays (count : ℕ) (p q : Pipe) : Type 0 where
  stays : q ≡ p → StepsOrStays count p q
  steps : IsStep count p q → StepsOrStays count p q

-- the pipe of a direction that becomes the later one stays, or makes one step that it allows
abbrev pub IsOneStepOrNone : Direction → Direction → Type 0
IsOneStepOrNone d later = StepsOrStays (received d.arrived) (pipe_of d) (pipe_of later)

-- each event is on each pipe one step or none
abbrev pub EachEventIsOneStep : Duo → Type 0
EachEventIsOneStep w = (event : Event) → IsOneStepOrNone w.ab (after_event event w).ab × IsOneStepOrNone w.ba (after_event event w).ba

-- the answers that would say that the two sides don't agree
abbrev pub is_ack_future : SendReply → Bool
is_ack_future (AckFuture written) = true
is_ack_future _ = false

abbrev pub is_beyond_or_clash : ReassemblyReply → Bool
is_beyond_or_clash (Beyond edge) = true
is_beyond_or_clash (FinClash fin at) = true
is_beyond_or_clash _ = false

-- the book's answer to what the end is about to ask is one of these
abbrev pub ask_refused : Ask → Direction → Bool
ask_refused (AskAckIn next window) d = is_ack_future (send_reply d.send (AckIn next window))
ask_refused (AskPlace at bytes) d = is_beyond_or_clash (arrival_reply d.arrived (Place at bytes))
ask_refused (AskFin at) d = is_beyond_or_clash (arrival_reply d.arrived (Fin at))
ask_refused _ d = false

abbrev pub mapping_clashes : Option Mapping → Lane → Bool
mapping_clashes None p = false
mapping_clashes (Some m) p = clashes m p.maps

abbrev pub copy_clashes : Option DataCopy → Lane → Bool
copy_clashes None p = false
copy_clashes (Some d) p = mapping_clashes d.mapping p

-- the mapping that is to be learned clashes with one that was
abbrev pub move_refused : Move → Lane → Bool
move_refused (Learn copy) p = copy_clashes (slice_get p.datas copy) p
move_refused _ p = false

abbrev pub lane_refused : (Lane → Bool) → Option Lane → Bool
lane_refused test None = false
lane_refused test (Some p) = test p

-- the event is answered by Beyond, FinClash or AckFuture, or its mapping clashes with one that was learned
abbrev pub is_refused : StreamEvent → Direction → Bool
is_refused (Moves path move) d = lane_refused (move_refused move) (slice_get d.lanes path)
is_refused (Asks path) d = lane_refused (λ p. ask_refused p.asking d) (slice_get d.lanes path)
is_refused _ d = false

abbrev pub NothingIsRefused : Direction → Type 0
NothingIsRefused d = (event : StreamEvent) → is_refused event d ≡ false

-- All positions and places of a lane lie at or below a number, and what comes after a FIN one past it.
pub record MappingIsShort (n : ℕ) (m : Mapping) : Type 0 where
  pub positions : m.pos + m.len ≤ n
  pub places : m.place + m.len ≤ n

pub record LaneIsShort (n : ℕ) (p : Lane) : Type 0 where
  pub sent : length p.sent ≤ n
  pub cells : Every (λ c. c.place < n) p.sent
  pub pieces : Every (MappingIsShort n) p.pieces
  pub datas : Every (λ c. c.pos + length c.bytes ≤ n) p.datas
  pub mapped : Every (λ c. IfSome c.mapping (MappingIsShort n)) p.datas
  pub data_fins : Every (λ e. e ≤ n) p.data_fins
  pub fins : Every (λ pos. pos ≤ n) p.fins
  pub acks : Every (λ a. (a.sub ≤ n + 1) × (a.next ≤ n + 1)) p.acks
  pub pairs : Every (λ m. (m.pos ≤ n) × (m.place ≤ n)) p.pairs
  pub edge : p.edge ≤ n
  pub maps : Every (MappingIsShort n) p.maps
  pub latest : p.latest.next ≤ n + 1

-- a path has no more bytes than were written, since each was granted to it once
abbrev pub PathsAreShort : Direction → Type 0
PathsAreShort d = Every (LaneIsShort (length d.send.written)) d.lanes

-- a number of 32 bits means one position beside another where they are less than 2^31 apart (RFC 9293, section 3.4)
abbrev pub IsNear : ℕ → ℕ → Type 0
IsNear expected told = (told < expected + 2 ^ 31) × (expected < told + 2 ^ 31)

-- all that is told on the lane is near a number
pub record TellsNear (expected : ℕ) (p : Lane) : Type 0 where
  pub datas : Every (λ c. IsNear expected c.pos) p.datas
  pub mapped : Every (λ c. IfSome c.mapping (λ m. IsNear expected m.pos × IsNear expected m.place)) p.datas
  pub data_fins : Every (IsNear expected) p.data_fins
  pub fins : Every (IsNear expected) p.fins
  pub pairs : Every (λ m. IsNear expected m.pos × IsNear expected m.place) p.pairs
  pub acks : Every (λ a. IsNear expected a.sub × IsNear expected a.next) p.acks

-- of a stream below 2^31 - 2 bytes every position and place that is told is near each one that may be expected: a
-- position or place of the stream, or one of the two after it
abbrev pub ShortStreamsAreNear : Direction → Type 0
ShortStreamsAreNear d = length d.send.written < 2 ^ 31 - 2 → (expected : ℕ) → expected ≤ length d.send.written + 2 → Every (TellsNear expected) d.lanes

-- Only path 0 carried bytes, and the byte at each of its positions has that number as its place.
pub record IsPlain (d : Direction) : Type 0 where
  pub only : (path : ℕ) (p : Lane) → (path ≡ 0 → ⊥) → slice_get d.lanes path ≡ Some p → p.sent ≡ []
  pub right : (p : Lane) → slice_get d.lanes 0 ≡ Some p → From (λ pos c. c.place ≡ pos) 0 p.sent

-- where A fell no join was begun or answered, where B fell none was answered, and then both directions are plain
pub record FallsAreRight (w : Duo) : Type 0 where
  pub a : w.modes.plain_a ≡ true → (w.modes.begun ≡ false) × (w.modes.answered ≡ false)
  pub b : w.modes.plain_b ≡ true → w.modes.answered ≡ false
  pub plain : (w.modes.plain_a || w.modes.plain_b) ≡ true → BothWays IsPlain w

-- whatever was altered: a reader that was told the end has as many bytes as were written to a closed stream
abbrev pub EndsAtAllBytes : Direction → Type 0
EndsAtAllBytes d = d.reader.told ≡ true → (d.send.closed ≡ true) × (length d.reader.out ≡ length d.send.written)

-- what stands in a cell, where there is one
abbrev pub flattened : Option (Option ℕ) → Option ℕ
flattened None = None
flattened (Some cell) = cell

-- the byte at a place of the stream, where it was placed: the reader's, or that of the reassembly book
abbrev pub content : Direction → ℕ → Option ℕ
content d place = if nat_lt place d.arrived.read then slice_get d.reader.out place else flattened (slice_get d.arrived.places (place - d.arrived.read))

-- each byte that was placed is the written one at its place, and stays it, in the book and with the reader
abbrev pub PlacedIsRight : Direction → Direction → Type 0
PlacedIsRight d later = (place byte : ℕ) → content d place ≡ Some byte → (slice_get later.send.written place ≡ Some byte) × (content later place ≡ Some byte)

-- the receiver's side fell neither back to plain TCP nor to an infinite mapping
abbrev pub never_fell_a : Modes → Bool
never_fell_a m = not (m.plain_a || m.loose_a)

abbrev pub never_fell_b : Modes → Bool
never_fell_b m = not (m.plain_b || m.loose_b)

-- every byte that a side placed before it fell is the other side's byte at that place, for ever
abbrev pub PlacedBeforeTheFallIsRight : Duo → Type 0
PlacedBeforeTheFallIsRight w = (more : List Event) → (never_fell_b w.modes ≡ true → PlacedIsRight w.ab (after_events more w).ab)
    × (never_fell_a w.modes ≡ true → PlacedIsRight w.ba (after_events more w).ba)

-- until then the reader has a prefix of what was written
abbrev pub PrefixBeforeTheFall : Duo → Type 0
PrefixBeforeTheFall w = (never_fell_b w.modes ≡ true → ReadsAPrefix w.ab) × (never_fell_a w.modes ≡ true → ReadsAPrefix w.ba)

-- an infinite mapping that was sent is right: the places of the record from its position on are those that it gives
abbrev pub PairIsRight : Lane → Pair → Type 0
PairIsRight p m = (pos place : ℕ) → m.pos ≤ pos → slice_get (places_of p.sent) pos ≡ Some place → place ≡ place_by m pos

abbrev pub InfiniteMappingsAreRight : Direction → Type 0
InfiniteMappingsAreRight d = Every (λ p. Every (PairIsRight p) p.pairs) d.lanes

-- Where all bytes of a learned mapping have come, and their checksum is that of the bytes that were sent, whatever numbers
-- the mapping is told with, they are these: so the check of a real end lets pass what a lane's does
-- (RFC 8684, section 3.3.1).
abbrev pub ChecksumsShow : Direction → Type 0
ChecksumsShow d = (path mapping count : ℕ) (p : Lane) (m : Mapping) (told : Summed) → slice_get d.lanes path ≡ Some p → slice_get p.maps mapping ≡ Some m
    → p.edge ≡ m.pos → length (in_order count p) ≡ m.len → dss_checksum told (in_order count p) ≡ dss_checksum told (part_of p.sent m)
    → in_order count p ≡ part_of p.sent m

-- the answers that would say that places, ends or acknowledgements don't agree
abbrev pub is_clash : ReassemblyReply → Bool
is_clash (FinClash fin at) = true
is_clash _ = false

-- the book's answer is FinClash or AckFuture; Beyond isn't counted here
abbrev pub ask_disagrees : Ask → Direction → Bool
ask_disagrees (AskAckIn next window) d = is_ack_future (send_reply d.send (AckIn next window))
ask_disagrees (AskPlace at bytes) d = is_clash (arrival_reply d.arrived (Place at bytes))
ask_disagrees (AskFin at) d = is_clash (arrival_reply d.arrived (Fin at))
ask_disagrees _ d = false

-- the event is answered by FinClash or AckFuture, or its mapping clashes with one that was learned
abbrev pub disagrees : StreamEvent → Direction → Bool
disagrees (Moves path move) d = lane_refused (move_refused move) (slice_get d.lanes path)
disagrees (Asks path) d = lane_refused (λ p. ask_disagrees p.asking d) (slice_get d.lanes path)
disagrees _ d = false

abbrev pub NothingDisagrees : Direction → Type 0
NothingDisagrees d = (event : StreamEvent) → disagrees event d ≡ false
