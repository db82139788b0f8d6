-- What was placed stays as it is: the book overwrites nothing, and a read hands its bytes to the reader.
use Rattle.stream_lanes.proofs.Words.{◌≡◌, refl, sym, ◌∙◌, ap, subst, ℕ, zero, suc, ◌+◌, ◌-◌, ◌<◌, ◌≤◌, min, Bool, true, false, nat_lt, ⊎_elim, List, [], ◌∷◌}
use Rattle.stream_lanes.proofs.Words.{◌++◌, length, take, drop, Option, Some, None, Result, Ok, Err, if◌then◌else◌, arith, ◌||◌, set, is_some, cases_lt}
use Rattle.stream_lanes.proofs.Words.{ltb-true, ltb-false, slice_get, append-nil, same_Some, Arriving, filled, by_place, merged, places_after, fin_clash}
use Rattle.stream_lanes.proofs.Words.{is_taken, bytes_reply, reading, after_reading, End, NoneYet, Span, Why, WriteBytes, CloseBook, Grant, AckIn, ReturnBytes}
use Rattle.stream_lanes.proofs.Words.{GoIdentityBook, GoInfiniteBook, AbortBook, Sending, acked_len, after_send, is_future, is_gathered, decision, given_by}
use Rattle.stream_lanes.proofs.Words.{slice_get-append_right, slice_get-drop, Ask, Lane, AskGrant, AskAckIn, AskPlace, AskFin, Flags, Move, Reader, Direction}
use Rattle.stream_lanes.proofs.Words.{StreamEvent, after, asks, asks_at, moves, reads, is_done, takes_read, with_send, goes_infinite, may_go, Write, Close}
use Rattle.stream_lanes.proofs.Words.{Return, GoIdentity, GoInfinite, AbortSend, Read, AbortRead, Moves, Asks, Duo, Event, flags_ab, flags_ba, after_event}
use Rattle.stream_lanes.proofs.Words.{after_events, ToB, ToA, is_exact, DirectionHolds, Holds, flattened, content, PlacedIsRight}
use Rattle.send_book.specs.declared.call.SendCall.{SendCall}
use Rattle.reassembly_book.specs.Steps.{is_end}
use Rattle.stream_lanes.proofs.Lists.{in_more, in_take, item_at}
use Rattle.stream_lanes.proofs.Bytes.{in_filled, merged_left}
use Rattle.stream_lanes.proofs.Duos.{after_event_held}

-- the byte at a place: the reader has it, or it stands in the book
pub data Placed (out : List ℕ) (read : ℕ) (places : List (Option ℕ)) (place byte : ℕ) : Type 0 where
  was_read : place < read → slice_get out place ≡ Some byte → Placed out read places place byte
  stands : read ≤ place → slice_get places (place - read) ≡ Some (Some byte) → Placed out read places place byte

abbrev PlacedIn : Direction → ℕ → ℕ → Type 0
PlacedIn d place byte = Placed d.reader.out d.arrived.read d.arrived.places place byte

cell_is : (o : Option (Option ℕ)) (byte : ℕ) → flattened o ≡ Some byte → o ≡ Some (Some byte)
cell_is = elim [ None ↦ λ byte e. cc | Some cell ↦ λ byte e. ap Some e ]

pub to_placed : (d : Direction) (place byte : ℕ) → content d place ≡ Some byte → PlacedIn d place byte
to_placed d place byte e = at (nat_lt place d.arrived.read) refl e
  where
    at : (c : Bool) → nat_lt place d.arrived.read ≡ c
        → (if c then slice_get d.reader.out place else flattened (slice_get d.arrived.places (place - d.arrived.read))) ≡ Some byte → PlacedIn d place byte
    at true is e = was_read (ltb-true place d.arrived.read is) e
    at false is e = stands (ltb-false place d.arrived.read is) (cell_is (slice_get d.arrived.places (place - d.arrived.read)) byte e)

pub from_placed : (d : Direction) (place byte : ℕ) → PlacedIn d place byte → content d place ≡ Some byte
from_placed d place byte (was_read below e) =
    (elim (nat_lt place d.arrived.read) as (λ c. nat_lt place d.arrived.read ≡ c → (if c then slice_get d.reader.out place else flattened (slice_get d.arrived.places (place - d.arrived.read))) ≡ Some byte) [
      | true ↦ λ is. e
      | false ↦ λ is. absurd (omega (arith, ltb-false place d.arrived.read is, below))
    ]) refl
from_placed d place byte (stands from e) =
    (elim (nat_lt place d.arrived.read) as (λ c. nat_lt place d.arrived.read ≡ c → (if c then slice_get d.reader.out place else flattened (slice_get d.arrived.places (place - d.arrived.read))) ≡ Some byte) [
      | true ↦ λ is. absurd (omega (arith, ltb-true place d.arrived.read is, from))
      | false ↦ λ is. ap flattened e
    ]) refl

-- of an exact receiver it is the written one
pub placed_right : (f : Flags) (d : Direction) → is_exact f ≡ true → DirectionHolds f d → (place byte : ℕ) → PlacedIn d place byte → slice_get d.send.written place ≡ Some byte
placed_right f d exact h place byte (was_read below e) =
    (in_take d.arrived.read d.send.written place byte (ap (λ xs. slice_get xs place) (sym (h.reader.out exact)) ∙ e)).0
placed_right f d exact h place byte (stands from e) = (h.arrived.cells.each (place - d.arrived.read) place byte (omega (arith, from)) e).written exact

-- what is written stays written
abbrev Written : Sending → ℕ → ℕ → Type 0
Written s place byte = slice_get s.written place ≡ Some byte

written_if : (place byte : ℕ) (c : Bool) (t u : Sending) → Written t place byte → Written u place byte → Written (if c then t else u) place byte
written_if place byte true t u at_true at_false = at_true
written_if place byte false t u at_true at_false = at_false

given_writes : (place byte path : ℕ) (r : Result Span Why) (s : Sending) → Written s place byte → Written (given_by path r s) place byte
given_writes place byte path (Ok span) s is = is
given_writes place byte path (Err why) s is = is

call_writes : (place byte : ℕ) (call : SendCall) (s : Sending) → Written s place byte → Written (after_send s call) place byte
call_writes place byte (WriteBytes bytes) s is = written_if place byte (s.closed || s.aborted) s _ is (in_more s.written (take _ bytes) place byte is)
call_writes place byte CloseBook s is = written_if place byte s.aborted s _ is is
call_writes place byte (Grant path max standby) s is = given_writes place byte path (decision path max standby s) s is
call_writes place byte (AckIn next window) s is = written_if place byte (is_future next s) s _ is is
call_writes place byte (GoInfiniteBook path) s is = written_if place byte (is_gathered path s) _ s is is
call_writes place byte _ s is = is

module _ (f : Flags) (d : Direction) (place byte : ℕ) (is : Written d.send place byte) where
  asks_write : (path : ℕ) (a : Ask) (p : Lane) → Written (asks path a p d).send place byte
  asks_write path (AskGrant max standby) p = call_writes place byte (Grant path max standby) d.send is
  asks_write path (AskAckIn next window) p = call_writes place byte (AckIn next window) d.send is
  asks_write path _ p = is

  asks_at_write : (path : ℕ) (o : Option Lane) → Written (asks_at path o d).send place byte
  asks_at_write path None = is
  asks_at_write path (Some p) = asks_write path p.asking p

  moves_write : (path : ℕ) (move : Move) (o : Option Lane) → Written (moves f path move o d).send place byte
  moves_write path move None = is
  moves_write path move (Some p) = is

  reads_write : (max : ℕ) (done : Bool) → Written (if done then d else reads max d).send place byte
  reads_write max true = is
  reads_write max false = is

  identity_writes : (fell : Bool) → Written (if fell then with_send GoIdentityBook d else d).send place byte
  identity_writes = elim [ true ↦ is | false ↦ is ]

  infinite_writes : (path pos : ℕ) (o : Option Lane) → Written (goes_infinite path pos o d).send place byte
  infinite_writes path pos None = is
  infinite_writes path pos (Some p) = by_may (may_go path pos d.send p)
    where
      by_may : (may : Bool) → Written (if may then record d {
        send = after_send d.send (GoInfiniteBook path);
        lanes = set d.lanes path (record p { pair = Some (record { pos = pos; place = acked_len d.send.marks }) });
      } else d).send place byte
      by_may true = call_writes place byte (GoInfiniteBook path) d.send is
      by_may false = is

  after_writes : (event : StreamEvent) → Written (after f event d).send place byte
  after_writes (Write bytes) = call_writes place byte (WriteBytes bytes) d.send is
  after_writes Close = call_writes place byte CloseBook d.send is
  after_writes (Return path) = call_writes place byte (ReturnBytes path) d.send is
  after_writes GoIdentity = identity_writes f.sender
  after_writes (GoInfinite path pos) = infinite_writes path pos (slice_get d.lanes path)
  after_writes AbortSend = call_writes place byte AbortBook d.send is
  after_writes (Read max) = reads_write max (is_done d.reader)
  after_writes (AbortRead by_peer) = is
  after_writes (Moves path move) = moves_write path move (slice_get d.lanes path)
  after_writes (Asks path) = asks_at_write path (slice_get d.lanes path)

-- a read: the reader has what it had, and the bytes that were read
read_out : (b : Arriving) (r : Reader) (max : ℕ) → (takes_read (reading None max b) r).out ≡ r.out ++ take max (filled b.places)
read_out b r max = elim (take max (filled b.places)) as (λ bytes. (takes_read (bytes_reply bytes b) r).out ≡ r.out ++ bytes) [
  | [] ↦ elim (is_end b.known_end b.read) as (λ c. (takes_read (if c then End else NoneYet) r).out ≡ r.out ++ []) [ true ↦ sym (append-nil r.out) | false ↦ sym (append-nil r.out) ]
  | x ∷ bytes ↦ refl
]

-- a byte that is filled, by its place
filled_byte : (places : List (Option ℕ)) (i byte : ℕ) → i < length (filled places) → slice_get places i ≡ Some (Some byte) → slice_get (filled places) i ≡ Some byte
filled_byte places i byte below e =
    let there = item_at (filled places) i below in
    there.1 ∙ same_Some _ _ (sym (in_filled places i there.0 there.1) ∙ e)

taken_byte : (count : ℕ) (xs : List ℕ) (i byte : ℕ) → i < count → slice_get xs i ≡ Some byte → slice_get (take count xs) i ≡ Some byte
taken_byte zero xs i byte below e = absurd (omega (arith, below))
taken_byte (suc count) [] i byte below e = cc
taken_byte (suc count) (x ∷ xs) zero byte below e = e
taken_byte (suc count) (x ∷ xs) (suc i) byte below e = taken_byte count xs i byte (omega (arith, below)) e

read_placed : (out : List ℕ) (b : Arriving) (max place byte : ℕ) → length out ≡ b.read → Placed out b.read b.places place byte
    → Placed (out ++ take max (filled b.places)) (after_reading max b).read (after_reading max b).places place byte
read_placed out b max place byte size (was_read below e) = was_read (omega (arith, below)) (in_more out (take max (filled b.places)) place byte e)
read_placed out b max place byte size (stands from e) = ⊎_elim
    (λ below. was_read below
    (slice_get-append_right out (take max (filled b.places)) (place - b.read) place (omega (arith, size, from))
    ∙ taken_byte max (filled b.places) (place - b.read) byte (omega (arith, below, from))
    (filled_byte b.places (place - b.read) byte (omega (arith, below, from)) e)))
    (λ above. stands above (slice_get-drop (min max (length (filled b.places))) b.places (place - (b.read + min max (length (filled b.places)))) (place - b.read) (omega (arith, above, from)) ∙ e))
    (cases_lt place (b.read + min max (length (filled b.places))))

module _ (f : Flags) (d : Direction) (place byte : ℕ) (size : length d.reader.out ≡ d.arrived.read) (is : PlacedIn d place byte) where
  merged_placed : (ys : List (Option ℕ)) → Placed d.reader.out d.arrived.read d.arrived.places place byte → Placed d.reader.out d.arrived.read (merged d.arrived.places ys) place byte
  merged_placed ys (was_read below e) = was_read below e
  merged_placed ys (stands from e) = stands from (merged_left d.arrived.places ys (place - d.arrived.read) byte e)

  place_if : (taken : Bool) (at : ℕ) (bytes : List ℕ) → Placed d.reader.out (if taken then record d.arrived { places = places_after at bytes d.arrived } else d.arrived).read
      (if taken then record d.arrived { places = places_after at bytes d.arrived } else d.arrived).places place byte
  place_if true at bytes = merged_placed (drop d.arrived.read (by_place at bytes)) is
  place_if false at bytes = is

  fin_if : (clash : Bool) (at : ℕ) → Placed d.reader.out (if clash then d.arrived else record d.arrived { known_end = Some at }).read
      (if clash then d.arrived else record d.arrived { known_end = Some at }).places place byte
  fin_if = elim [ true ↦ λ at. is | false ↦ λ at. is ]

  asks_place : (path : ℕ) (a : Ask) (p : Lane) → PlacedIn (asks path a p d) place byte
  asks_place path (AskPlace at bytes) p = place_if (is_taken at bytes d.arrived) at bytes
  asks_place path (AskFin at) p = fin_if (is_some (fin_clash d.arrived.known_end at d.arrived)) at
  asks_place path _ p = is

  asks_at_place : (path : ℕ) (o : Option Lane) → PlacedIn (asks_at path o d) place byte
  asks_at_place path None = is
  asks_at_place path (Some p) = asks_place path p.asking p

  moves_place : (path : ℕ) (move : Move) (o : Option Lane) → PlacedIn (moves f path move o d) place byte
  moves_place path move None = is
  moves_place path move (Some p) = is

  reads_place : (max : ℕ) (done : Bool) → PlacedIn (if done then d else reads max d) place byte
  reads_place max true = is
  reads_place max false = by_abort d.arrived.aborted
    where
      by_abort : (o : Option Bool) → Placed (takes_read (reading o max d.arrived) d.reader).out (if is_some o then d.arrived else after_reading max d.arrived).read
          (if is_some o then d.arrived else after_reading max d.arrived).places place byte
      by_abort None = subst (λ out. Placed out (after_reading max d.arrived).read (after_reading max d.arrived).places place byte) (sym (read_out d.arrived d.reader max))
          (read_placed d.reader.out d.arrived max place byte size is)
      by_abort (Some by_peer) = is

  identity_places : (fell : Bool) → PlacedIn (if fell then with_send GoIdentityBook d else d) place byte
  identity_places = elim [ true ↦ is | false ↦ is ]

  infinite_places : (path pos : ℕ) (o : Option Lane) → PlacedIn (goes_infinite path pos o d) place byte
  infinite_places path pos None = is
  infinite_places path pos (Some p) = by_may (may_go path pos d.send p)
    where
      by_may : (may : Bool) → PlacedIn (if may then record d {
        send = after_send d.send (GoInfiniteBook path);
        lanes = set d.lanes path (record p { pair = Some (record { pos = pos; place = acked_len d.send.marks }) });
      } else d) place byte
      by_may true = is
      by_may false = is

  after_places : (event : StreamEvent) → PlacedIn (after f event d) place byte
  after_places (Read max) = reads_place max (is_done d.reader)
  after_places (Moves path move) = moves_place path move (slice_get d.lanes path)
  after_places (Asks path) = asks_at_place path (slice_get d.lanes path)
  after_places GoIdentity = identity_places f.sender
  after_places (GoInfinite path pos) = infinite_places path pos (slice_get d.lanes path)
  after_places _ = is

-- over every list of events
stays_ab : (events : List Event) (w : Duo) (place byte : ℕ) → Holds w → Written w.ab.send place byte → PlacedIn w.ab place byte
    → (slice_get (after_events events w).ab.send.written place ≡ Some byte) × (content (after_events events w).ab place ≡ Some byte)
stays_ab [] w place byte h is placed = (is, from_placed w.ab place byte placed)
stays_ab (event ∷ events) w place byte h is placed =
    stays_ab events (after_event event w) place byte (after_event_held event w h) (writes event) (places event)
  where
    writes : (event : Event) → Written (after_event event w).ab.send place byte
    writes (ToB event) = after_writes (flags_ab w.modes) w.ab place byte is event
    writes _ = is

    places : (event : Event) → PlacedIn (after_event event w).ab place byte
    places (ToB event) = after_places (flags_ab w.modes) w.ab place byte h.ab.reader.size placed event
    places _ = placed

stays_ba : (events : List Event) (w : Duo) (place byte : ℕ) → Holds w → Written w.ba.send place byte → PlacedIn w.ba place byte
    → (slice_get (after_events events w).ba.send.written place ≡ Some byte) × (content (after_events events w).ba place ≡ Some byte)
stays_ba [] w place byte h is placed = (is, from_placed w.ba place byte placed)
stays_ba (event ∷ events) w place byte h is placed =
    stays_ba events (after_event event w) place byte (after_event_held event w h) (writes event) (places event)
  where
    writes : (event : Event) → Written (after_event event w).ba.send place byte
    writes (ToA event) = after_writes (flags_ba w.modes) w.ba place byte is event
    writes _ = is

    places : (event : Event) → PlacedIn (after_event event w).ba place byte
    places (ToA event) = after_places (flags_ba w.modes) w.ba place byte h.ba.reader.size placed event
    places _ = placed

-- what an exact receiver placed is right, and stays it
pub right_ab : (events : List Event) (w : Duo) → Holds w → is_exact (flags_ab w.modes) ≡ true → PlacedIsRight w.ab (after_events events w).ab
right_ab events w h exact place byte is =
    let placed = to_placed w.ab place byte is in
    stays_ab events w place byte h (placed_right (flags_ab w.modes) w.ab exact h.ab place byte placed) placed

pub right_ba : (events : List Event) (w : Duo) → Holds w → is_exact (flags_ba w.modes) ≡ true → PlacedIsRight w.ba (after_events events w).ba
right_ba events w h exact place byte is =
    let placed = to_placed w.ba place byte is in
    stays_ba events w place byte h (placed_right (flags_ba w.modes) w.ba exact h.ba place byte placed) placed
