-- The promises, from what holds of a connection.
--
-- Conditions that fall, conclusions that rise: what is said of plain TCP holds as long as no join was answered
-- (`alone`), and is said of every copy from the beginning on; so a fall needs nothing new of old copies.
use Rattle.stream_lanes.proofs.Words.{◌≡◌, refl, sym, ◌∙◌, ap, subst, ℕ, zero, suc, ◌+◌, ◌-◌, ◌<◌, ◌≤◌, true, false, not, List, [], ◌∷◌, ◌++◌, length, take}
use Rattle.stream_lanes.proofs.Words.{drop, replicate, Some, arith, ◌&&◌, ◌||◌, ◌^◌, or_left, or_right, not-true, and_from, true≢false, slice_get, list_all}
use Rattle.stream_lanes.proofs.Words.{length-take, length-drop, take-append-drop, length-map, take_all, slice_get_within, same_Some, received, acked_len}
use Rattle.stream_lanes.proofs.Words.{ByteMark, Acked, Held, Free, is_acked, is_held_rightly, Mapping, Pair, Lane, Cell, Flags, in_order, bytes_of, part_of}
use Rattle.stream_lanes.proofs.Words.{Reader, Direction, Duo, flags_ab, flags_ba, after_events, opening, opening_over, ToB, ToA, From, view_of, is_exact}
use Rattle.stream_lanes.proofs.Words.{LaneHolds, CellFits, IsEndless, IsRight, DirectionHolds, Came, Holds, Always, AlwaysChecked, AlwaysAny, BothWays}
use Rattle.stream_lanes.proofs.Words.{ReadsAPrefix, AcknowledgesReceivedBytes, EndsAtTheWhole, NothingFollowsTheEnd, AbortedIsNoEnd, EachEventIsOneStep}
use Rattle.stream_lanes.proofs.Words.{NothingIsRefused, MappingIsShort, LaneIsShort, PathsAreShort, IsNear, TellsNear, ShortStreamsAreNear, IsPlain}
use Rattle.stream_lanes.proofs.Words.{FallsAreRight, RecordsAgree, EndsAtAllBytes, PrefixBeforeTheFall, PlacedBeforeTheFallIsRight, ChecksumsShow}
use Rattle.stream_lanes.proofs.Words.{NothingDisagrees, InfiniteMappingsAreRight, AreAcked}
use Rattle.stream_lanes.specs.Laws.StepsOrStays.{stays}
use Rattle.stream_lanes.proofs.Lists.{Every-map, IfSome-map, in_map}
use Rattle.stream_lanes.proofs.MarkLists.{count_within}
use Rattle.stream_lanes.proofs.Views.{is_end, all_in_bound, received_written}
use Rattle.stream_lanes.proofs.Duos.{all_held, any_held, fallen_ab, link_stays}
use Rattle.stream_lanes.proofs.AfterTheEnd.{done_ab, done_ba, shut_ab, shut_ba}
use Rattle.stream_lanes.proofs.Pipes.{event_moves}
use Rattle.stream_lanes.proofs.Refusals.{never_refused, never_disagrees}
use Rattle.stream_lanes.proofs.Bytes.{From-filled, From-take, part_is_honest}
use Rattle.stream_lanes.proofs.Checking.{came_cases, checksum_shows}
use Rattle.stream_lanes.proofs.Content.{right_ab, right_ba}

-- a fact of each direction that holds
both : {P : Direction → Type 0} → ((f : Flags) (d : Direction) → DirectionHolds f d → P d) → (w : Duo) → Holds w → P w.ab × P w.ba
both of w h = (of (flags_ab w.modes) w.ab h.ab, of (flags_ba w.modes) w.ba h.ba)

any_both : {P : Direction → Type 0} → ((f : Flags) (d : Direction) → DirectionHolds f d → P d) → AlwaysAny (BothWays P)
any_both of alters checked paths buffer capacity events =
    both of (after_events events (opening_over alters checked paths buffer capacity)) (any_held alters checked paths buffer capacity events)

-- what holds of a direction over links that alter nothing
both_unaltered : {P : Direction → Type 0} → ((f : Flags) (d : Direction) → is_exact f ≡ true → DirectionHolds f d → P d) → (w : Duo) → w.modes.alters ≡ false → Holds w → P w.ab × P w.ba
both_unaltered of w none h = (of (flags_ab w.modes) w.ab (exact_unaltered (flags_ab w.modes) none) h.ab, of (flags_ba w.modes) w.ba (exact_unaltered (flags_ba w.modes) none) h.ba)
  where
    exact_unaltered : (f : Flags) → f.alters ≡ false → is_exact f ≡ true
    exact_unaltered f none = ap (λ c. not c || (f.checked && not (f.receiver || f.loose))) none

-- where mappings are checked, who has not fallen is exact
exact_checked : (f : Flags) → f.checked ≡ true → not (f.receiver || f.loose) ≡ true → is_exact f ≡ true
exact_checked f checked free = or_right (not f.alters) (f.checked && not (f.receiver || f.loose)) (and_from f.checked (not (f.receiver || f.loose)) checked free)

pub reads_prefix : (f : Flags) (d : Direction) → is_exact f ≡ true → DirectionHolds f d → ReadsAPrefix d
reads_prefix f d exact h = record {
  rest = drop d.arrived.read d.send.written;
  whole_is = sym (take-append-drop d.arrived.read d.send.written) ∙ ap (λ xs. xs ++ drop d.arrived.read d.send.written) (sym (h.reader.out exact));
}

pub reads_a_prefix : Always (BothWays ReadsAPrefix)
reads_a_prefix paths buffer capacity events =
    both_unaltered reads_prefix (after_events events (opening paths buffer capacity)) (link_stays events (opening paths buffer capacity)).0 (all_held paths buffer capacity events)

pub prefix_before_the_fall : AlwaysChecked PrefixBeforeTheFall
prefix_before_the_fall paths buffer capacity events =
    let w : Duo = after_events events (opening_over true true paths buffer capacity) in
    let h : Holds w = any_held true true paths buffer capacity events in
    let checked : w.modes.checked ≡ true = (link_stays events (opening_over true true paths buffer capacity)).1 in (
      λ free. reads_prefix (flags_ab w.modes) w.ab (exact_checked (flags_ab w.modes) checked free) h.ab,
      λ free. reads_prefix (flags_ba w.modes) w.ba (exact_checked (flags_ba w.modes) checked free) h.ba,
    )

-- the book's own words for its marks
first_acked : (n : ℕ) (ms : List ByteMark) → AreAcked n ms → take n ms ≡ replicate n Acked
first_acked zero ms are = refl
first_acked (suc n) [] are = absurd (omega (arith, are))
first_acked (suc n) (m ∷ ms) are =
    let rest = first_acked n ms are.1 in
    rw ((elim m as (λ m. is_acked m ≡ true → m ≡ Acked) [ Acked ↦ λ e. refl | Held path paths ↦ λ e. cc | Free paths ↦ λ e. cc ]) are.0) (ap (λ xs. Acked ∷ xs) rest)

all_held_rightly : (ms : List ByteMark) → ((i : ℕ) (m : ByteMark) → slice_get ms i ≡ Some m → is_held_rightly m ≡ true) → list_all is_held_rightly ms ≡ true
all_held_rightly [] each = refl
all_held_rightly (m ∷ ms) each = and_from (is_held_rightly m) (list_all is_held_rightly ms) (each 0 m refl) (all_held_rightly ms (λ i x e. each (suc i) x e))

pub records_fit : (f : Flags) (d : Direction) → DirectionHolds f d → RecordsAgree d
records_fit f d h = record {
  tile = record {
    whole = h.send.whole;
    acked_first = first_acked (acked_len d.send.marks) d.send.marks h.send.first;
    held = all_held_rightly d.send.marks (λ i m e. h.send.held.each i m e);
  };
  bytes = λ path p there. Every-map (λ c fits. (fits.byte, fits.spent)) (h.lanes.each path path p (omega arith) there).record_of.cells;
  all = λ path p there. (h.lanes.each path path p (omega arith) there).record_of.tried;
}

pub records_agree : AlwaysAny (BothWays RecordsAgree)
records_agree alters checked paths buffer capacity events = any_both records_fit alters checked paths buffer capacity events

acked_below : (n place : ℕ) (ms : List ByteMark) → AreAcked n ms → slice_get ms place ≡ Some Acked → place < n
acked_below n place [] are is = cc
acked_below zero zero (m ∷ ms) are is = let same : m ≡ Acked = same_Some m Acked is in absurd (true≢false (sym (ap is_acked same) ∙ are.0))
acked_below (suc n) zero (m ∷ ms) are is = omega arith
acked_below zero (suc place) (m ∷ ms) are is = absurd (omega (arith, acked_below zero place ms are.1 is))
acked_below (suc n) (suc place) (m ∷ ms) are is = omega (arith, acked_below n place ms are.1 is)

pub acknowledges : (f : Flags) (d : Direction) → DirectionHolds f d → AcknowledgesReceivedBytes d
acknowledges f d h = record {
  each = λ place is. omega (arith, acked_below (acked_len d.send.marks) place d.send.marks h.send.first is, h.send.acked);
  count = h.send.acked;
  written = received_written (view_of f d.send d.arrived) d.arrived h.arrived;
  fin = λ is.
      let all = h.send.fin is in
      let end = is_end d.send all.0 all.1 in
      (end.0, omega (arith, end.1, all.2, h.send.acked, received_written (view_of f d.send d.arrived) d.arrived h.arrived));
}

pub acknowledges_received_bytes : AlwaysAny (BothWays AcknowledgesReceivedBytes)
acknowledges_received_bytes alters checked paths buffer capacity events = any_both acknowledges alters checked paths buffer capacity events

pub placed_before_the_fall : AlwaysChecked PlacedBeforeTheFallIsRight
placed_before_the_fall paths buffer capacity events more =
    let w : Duo = after_events events (opening_over true true paths buffer capacity) in
    let h : Holds w = any_held true true paths buffer capacity events in
    let checked : w.modes.checked ≡ true = (link_stays events (opening_over true true paths buffer capacity)).1 in (
      λ free. right_ab more w h (exact_checked (flags_ab w.modes) checked free),
      λ free. right_ba more w h (exact_checked (flags_ba w.modes) checked free),
    )

-- all bytes of a learned mapping
checksums_show_in : (f : Flags) (d : Direction) → DirectionHolds f d → ChecksumsShow d
checksums_show_in f d h path mapping count p m told there learned at size right =
    let lane : LaneHolds (view_of f d.send d.arrived) path p = h.lanes.each path path p (omega arith) there in
    let fits : IsRight p.sent m = lane.bytes.right.each mapping m learned in
    let row : From (Came p.alters p.pieces p.sent) m.pos (in_order count p) =
    subst (λ first. From (Came p.alters p.pieces p.sent) first (in_order count p)) at (From-take count (From-filled lane.bytes.came)) in
    let part_size : length (part_of p.sent m) ≡ m.len =
    omega (arith, length-take m.len (drop m.pos (bytes_of p.sent)), length-drop m.pos (bytes_of p.sent), length-map p.sent (λ (c : Cell). c.byte), fits.within) in
    checksum_shows told (in_order count p) (part_of p.sent m) (omega (arith, part_size, fits.some))
    (came_cases p.alters p.pieces p.sent m (lane.bytes.learned.each mapping m learned) lane.bytes.apart (in_order count p) (part_of p.sent m) size part_size row (part_is_honest p.sent m fits)) right

pub checksums_show : AlwaysAny (BothWays ChecksumsShow)
checksums_show alters checked paths buffer capacity events = any_both checksums_show_in alters checked paths buffer capacity events

pub nothing_disagrees : AlwaysAny (BothWays NothingDisagrees)
nothing_disagrees alters checked paths buffer capacity events = any_both never_disagrees alters checked paths buffer capacity events

-- an infinite mapping gives each byte its place
pairs_right : (f : Flags) (d : Direction) → DirectionHolds f d → InfiniteMappingsAreRight d
pairs_right f d h = record {
  each = λ path p there. Every-map (λ m right pos place from e.
      let cell = in_map (λ (c : Cell). c.place) p.sent pos place e in
      sym cell.2 ∙ right.places pos cell.0 from cell.1) (h.lanes.each path path p (omega arith) there).pairs.told;
}

pub infinite_mappings_are_right : AlwaysAny (BothWays InfiniteMappingsAreRight)
infinite_mappings_are_right alters checked paths buffer capacity events = any_both pairs_right alters checked paths buffer capacity events

pub ends_at_all : (f : Flags) (d : Direction) → DirectionHolds f d → EndsAtAllBytes d
ends_at_all f d h told =
    let end = is_end d.send d.arrived.read (h.reader.told told) in
    (end.0, omega (arith, h.reader.size, end.1))

pub ends_at_all_bytes : AlwaysAny (BothWays EndsAtAllBytes)
ends_at_all_bytes alters checked paths buffer capacity events = any_both ends_at_all alters checked paths buffer capacity events

pub ends_whole : (f : Flags) (d : Direction) → is_exact f ≡ true → DirectionHolds f d → EndsAtTheWhole d
ends_whole f d exact h told =
    let end = is_end d.send d.arrived.read (h.reader.told told) in
    (end.0, h.reader.out exact ∙ take_all d.arrived.read d.send.written (omega (arith, end.1)))

pub ends_at_the_whole : Always (BothWays EndsAtTheWhole)
ends_at_the_whole paths buffer capacity events =
    both_unaltered ends_whole (after_events events (opening paths buffer capacity)) (link_stays events (opening paths buffer capacity)).0 (all_held paths buffer capacity events)

pub nothing_follows_any_end : AlwaysAny NothingFollowsTheEnd
nothing_follows_any_end alters checked paths buffer capacity events more =
    let w : Duo = after_events events (opening_over alters checked paths buffer capacity) in
    let whole = ends_at_all_bytes alters checked paths buffer capacity events in (
      λ told. record { read = done_ab more w (or_left w.ab.reader.told w.ab.reader.stopped told); written = shut_ab more w (whole.0 told).0 },
      λ told. record { read = done_ba more w (or_left w.ba.reader.told w.ba.reader.stopped told); written = shut_ba more w (whole.1 told).0 },
    )

pub nothing_follows_the_end : Always NothingFollowsTheEnd
nothing_follows_the_end paths buffer capacity events = nothing_follows_any_end false false paths buffer capacity events

pub aborted_is_no_end : AlwaysAny AbortedIsNoEnd
aborted_is_no_end alters checked paths buffer capacity events more =
    let w : Duo = after_events events (opening_over alters checked paths buffer capacity) in
    let h : Holds w = any_held alters checked paths buffer capacity events in (
      λ stopped. ap (λ (r : Reader). r.told) (done_ab more w (or_right w.ab.reader.told w.ab.reader.stopped stopped)) ∙ h.ab.reader.once stopped,
      λ stopped. ap (λ (r : Reader). r.told) (done_ba more w (or_right w.ba.reader.told w.ba.reader.stopped stopped)) ∙ h.ba.reader.once stopped,
    )

pub any_event_is_one_step : AlwaysAny EachEventIsOneStep
any_event_is_one_step alters checked paths buffer capacity events event =
    at (after_events events (opening_over alters checked paths buffer capacity)) (any_held alters checked paths buffer capacity events) event
  where
    at : (w : Duo) → Holds w → EachEventIsOneStep w
    at w h (ToB event) = (event_moves (flags_ab w.modes) w.ab h.ab event, stays refl)
    at w h (ToA event) = (stays refl, event_moves (flags_ba w.modes) w.ba h.ba event)
    at w h _ = (stays refl, stays refl)

pub nothing_is_refused : Always (BothWays NothingIsRefused)
nothing_is_refused paths buffer capacity events =
    at (after_events events (opening paths buffer capacity)) (link_stays events (opening paths buffer capacity)).0 (all_held paths buffer capacity events)
  where
    at : (w : Duo) → w.modes.alters ≡ false → Holds w → BothWays NothingIsRefused w
    at w none h = (never_refused (flags_ab w.modes) w.ab h.ab none, never_refused (flags_ba w.modes) w.ba h.ba none)

-- how long a path is
module _ (f : Flags) (d : Direction) (h : DirectionHolds f d) (path : ℕ) (p : Lane) (lane : LaneHolds (view_of f d.send d.arrived) path p) where
  short : length p.sent ≤ length d.send.written
  short = omega (arith, lane.record_of.once, count_within path d.send.marks, h.send.whole)

  cell_below : (c : Cell) → CellFits path (view_of f d.send d.arrived) c → c.place < length d.send.written
  cell_below c fits = slice_get_within d.send.written c.place c.byte fits.byte

  mapping_short : (m : Mapping) → IsRight p.sent m → MappingIsShort (length d.send.written) m
  mapping_short m right =
      let last = right.places (m.len - 1) (omega (arith, right.some)) in
      let there = in_map (λ (c : Cell). c.place) p.sent (m.pos + (m.len - 1)) (m.place + (m.len - 1)) last in
      let place : there.0.place ≡ m.place + (m.len - 1) = there.2 in
      let inside : there.0.place < length d.send.written = cell_below there.0 (lane.record_of.cells.each (m.pos + (m.len - 1)) there.0 there.1) in
      record { positions = omega (arith, right.within, short); places = omega (arith, place, inside, right.some) }

  next_short : (next : ℕ) → next ≤ (view_of f d.send d.arrived).next → next ≤ length d.send.written + 1
  next_short next below = omega (arith, below, received_written (view_of f d.send d.arrived) d.arrived h.arrived, all_in_bound d.send.closed d.send.written (received d.arrived))

  pair_short : (m : Pair) → IsEndless path (view_of f d.send d.arrived) p.sent m → (m.pos ≤ length d.send.written) × (m.place ≤ length d.send.written)
  pair_short m right = let within = right.within in let upto = right.upto in (omega (arith, within, short), omega (arith, upto))

  lane_short : LaneIsShort (length d.send.written) p
  lane_short = record {
    sent = short;
    cells = Every-map cell_below lane.record_of.cells;
    pieces = Every-map mapping_short lane.bytes.granted;
    datas = Every-map (λ c honest. omega (arith, honest.within, short)) lane.bytes.honest;
    mapped = Every-map (λ c honest. IfSome-map c.mapping mapping_short honest.mapping) lane.bytes.honest;
    data_fins = Every-map (λ e end. omega (arith, (is_end d.send e end).1)) lane.ends.named;
    fins = Every-map (λ pos fin. omega (arith, fin.last, short)) lane.fins;
    acks = record { each = λ i a e. (omega (arith, lane.bytes.acked.each i a e, short), next_short a.next (lane.receiver.copies.each i a e).stream.covers) };
    pairs = Every-map pair_short lane.pairs.told;
    edge = omega (arith, lane.bytes.within, short);
    maps = Every-map mapping_short lane.bytes.right;
    latest = next_short p.latest.next lane.receiver.told.covers;
  }

pub paths_short : (f : Flags) (d : Direction) → DirectionHolds f d → PathsAreShort d
paths_short f d h = record { each = λ i p e. lane_short f d h i p (h.lanes.each i i p (omega arith) e) }

pub paths_are_short : AlwaysAny (BothWays PathsAreShort)
paths_are_short alters checked paths buffer capacity events = any_both paths_short alters checked paths buffer capacity events

-- of a short stream all is near
near : (length_of expected told : ℕ) → length_of < 2 ^ 31 - 2 → expected ≤ length_of + 2 → told ≤ length_of + 1 → IsNear expected told
near length_of expected told short within below = (omega (arith, short, within, below), omega (arith, short, within, below))

lane_near : (n expected : ℕ) (p : Lane) → n < 2 ^ 31 - 2 → expected ≤ n + 2 → LaneIsShort n p → TellsNear expected p
lane_near n expected p short within h = record {
  datas = Every-map (λ c below. near n expected c.pos short within (omega (arith, below))) h.datas;
  mapped = Every-map (λ c all. IfSome-map c.mapping (λ m is. (near n expected m.pos short within (omega (arith, is.positions)), near n expected m.place short within (omega (arith, is.places)))) all) h.mapped;
  data_fins = Every-map (λ e below. near n expected e short within (omega (arith, below))) h.data_fins;
  fins = Every-map (λ pos below. near n expected pos short within (omega (arith, below))) h.fins;
  pairs = Every-map (λ m below. (near n expected m.pos short within (omega (arith, below.0)), near n expected m.place short within (omega (arith, below.1)))) h.pairs;
  acks = Every-map (λ a below. (near n expected a.sub short within below.0, near n expected a.next short within below.1)) h.acks;
}

pub all_near : (f : Flags) (d : Direction) → DirectionHolds f d → ShortStreamsAreNear d
all_near f d h short expected within = Every-map (λ p is. lane_near (length d.send.written) expected p short within is) (paths_short f d h)

pub short_streams_are_near : AlwaysAny (BothWays ShortStreamsAreNear)
short_streams_are_near alters checked paths buffer capacity events = any_both all_near alters checked paths buffer capacity events

-- plain TCP
pub plain_direction : (f : Flags) (d : Direction) → not f.answered ≡ true → DirectionHolds f d → IsPlain d
plain_direction f d alone h = record {
  only = λ path p other there. ((h.lanes.each path path p (omega arith) there).alone alone).others other;
  right = λ p there. ((h.lanes.each 0 0 p (omega arith) there).alone alone).identity;
}

pub falls_are_right : AlwaysAny FallsAreRight
falls_are_right alters checked paths buffer capacity events =
    at (after_events events (opening_over alters checked paths buffer capacity)) (any_held alters checked paths buffer capacity events)
  where
    at : (w : Duo) → Holds w → FallsAreRight w
    at w h = record {
      a = λ is. (h.modes.a is, not-true w.modes.answered (fallen_ab w.modes h.modes (or_left w.modes.plain_a w.modes.plain_b is)));
      b = h.modes.b;
      plain = λ is.
          let alone : not w.modes.answered ≡ true = fallen_ab w.modes h.modes is in
          (plain_direction (flags_ab w.modes) w.ab alone h.ab, plain_direction (flags_ba w.modes) w.ba alone h.ba);
    }
