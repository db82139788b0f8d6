-- What each call makes of a link. `strip` takes a segment's Multipath TCP options away, and `alter` turns the lowest bit
-- of its first payload octet, where it comes from this side.
use Rattle.std.specs.Prelude.{ℕ, zero, suc, ◌+◌, ◌-◌, ◌^◌, min, Bool, true, false, ◌&&◌, ◌||◌, ◌==◌, nat_lt, if◌then◌else◌, List, [], ◌∷◌, Option, Some, None, filter, remove, find, position}
use Rattle.sides.specs.declared.side.Side.{Side}
use Rattle.sides.specs.declared.side.Side.TheVariants.{A, B}
use Rattle.sides.specs.Side.{peer}
use Rattle.link_script.specs.declared.script.PathLine.{PathLine}
use Rattle.link_script.specs.declared.script.ScriptLine.{ScriptLine}
use Rattle.link_script.specs.Places.{same_side, path_named}
use Rattle.key_material.specs.Drawing.{drawn_word}
use Rattle.link_model.specs.declared.fate.Fate.{Fate}
use Rattle.link_model.specs.declared.fate.Fate.TheVariants.{OnTime, Lost, Full, Late, Twice}
use Rattle.link_model.specs.declared.flight.Flight.{Flight}
use Rattle.link_model.specs.declared.flight.Due.{Due}
use Rattle.link_model.specs.declared.fate.SegmentFate.{SegmentFate}
use Rattle.link_model.specs.declared.link.Passage.{Passage}
use Rattle.link_model.specs.declared.passage.Rate.{Rate}
use Rattle.link_model.specs.declared.passage.Waiting.{Waiting}
use Rattle.link_model.specs.Fate.{fate_of, is_stripped, is_altered, cut_short}
use Rattle.link_model.specs.Passage.{shape_of, loss_stream, jitter_stream, is_drawn, ticks_drawn, empty_queue, is_full, queued, ticks_queued, octets_left}
use Rattle.link_model.specs.State.{LinkState}

-- ---- a new link

-- a path is named, and it is this one
abbrev pub is_path : ℕ → Option ℕ → Bool
is_path path (Some named) = named == path
is_path path None = false

-- the lines that name a path
abbrev pub lines_of : ℕ → List ScriptLine → List ScriptLine
lines_of path lines = filter (λ line. is_path path (path_named line)) lines

-- the ticks from one end of a path to the other
abbrev pub delay_of : ℕ → List PathLine → ℕ
delay_of path [] = 0
delay_of zero (line ∷ lines) = line.delay
delay_of (suc path) (line ∷ lines) = delay_of path lines

-- nothing waits and nothing is under way on the link of a path with this delay
abbrev pub new_link : {C : Type 0} → ℕ → ℕ → ℕ → List ScriptLine → LinkState C
new_link seed path delay lines = record {
  path = path;
  delay = delay;
  lines = lines_of path lines;
  seed = seed;
  from_a = 0;
  from_b = 0;
  waits_a = empty_queue;
  waits_b = empty_queue;
  under_way = [];
}

-- ---- taking a segment

-- how many segments were taken from a side
abbrev pub segments_sent : {C : Type 0} → Side → LinkState C → ℕ
segments_sent A link = link.from_a
segments_sent B link = link.from_b

-- a count goes up by one, and stands still at 2 ^ 64 - 1
abbrev pub counted : ℕ → ℕ
counted count = min (count + 1) (2 ^ 64 - 1)

abbrev pub one_more : {C : Type 0} → Side → LinkState C → LinkState C
one_more A link = record link { from_a = counted link.from_a }
one_more B link = record link { from_b = counted link.from_b }

-- the number of the next segment from a side, which is what the count comes to
abbrev pub next_number : {C : Type 0} → Side → LinkState C → ℕ
next_number from link = counted (segments_sent from link)

-- the ticks at which a segment arrives, which would be this one if nothing happened to it
abbrev pub arrivals : Fate → ℕ → List ℕ
arrivals OnTime on_time = on_time ∷ []
arrivals Lost on_time = []
arrivals Full on_time = []
arrivals (Late ticks) on_time = (on_time + ticks) ∷ []
arrivals (Twice ticks) on_time = on_time ∷ (on_time + ticks) ∷ []

-- what arrives of what is carried
abbrev pub changed : {C : Type 0} → (C → C) → (C → C) → Bool → Bool → C → C
changed strip alter stripped altered carried =
    let kept = if stripped then strip carried else carried in
    if altered then alter kept else kept

-- at one tick, copies to B arrive before copies to A
abbrev pub rank : Side → ℕ
rank B = 0
rank A = 1

-- the order of arrival: by tick, then to B before to A, then by number
abbrev pub comes_before : {C : Type 0} → Flight C → Flight C → Bool
comes_before f g =
    nat_lt f.tick g.tick || (f.tick == g.tick && (nat_lt (rank f.to) (rank g.to) || (rank f.to == rank g.to && nat_lt f.number g.number)))

-- one copy more, before the first one that it comes before
abbrev pub with_flight : {C : Type 0} → Flight C → List (Flight C) → List (Flight C)
with_flight f [] = f ∷ []
with_flight f (g ∷ flights) = if comes_before f g then f ∷ g ∷ flights else g ∷ with_flight f flights

-- a copy for each of these ticks
abbrev pub with_flights : {C : Type 0} → Side → ℕ → C → List ℕ → List (Flight C) → List (Flight C)
with_flights to number carried [] flights = flights
with_flights to number carried (tick ∷ ticks) flights =
    with_flights to number carried ticks (with_flight (record { tick = tick; to = to; number = number; carried = carried }) flights)

-- ---- before it is under way

-- what waits before the direction from a side
abbrev pub waiting_of : {C : Type 0} → Side → LinkState C → Waiting
waiting_of A link = link.waits_a
waiting_of B link = link.waits_b

abbrev pub with_waiting : {C : Type 0} → Side → Waiting → LinkState C → LinkState C
with_waiting A waiting link = record link { waits_a = waiting }
with_waiting B waiting link = record link { waits_b = waiting }

abbrev pub rate_of : {C : Type 0} → Side → LinkState C → Option Rate
rate_of from link = (shape_of from link.lines).rate

-- a segment of so many octets on its way, behind an IPv4 header of 20
abbrev pub on_its_way : ℕ → ℕ
on_its_way length = length + 20

abbrev pub is_lost : Fate → Bool
is_lost Lost = true
is_lost fate = false

-- the word that is drawn for the segment of this number loses it
abbrev pub is_lost_by_chance : {C : Type 0} → Side → ℕ → LinkState C → Bool
is_lost_by_chance from number link = is_drawn (shape_of from link.lines).loss (drawn_word link.seed (loss_stream link.path from) (number - 1))

-- a line on it does, or that word
abbrev pub is_lost_at_once : {C : Type 0} → Side → ℕ → LinkState C → Bool
is_lost_at_once from number link = is_lost (fate_of from number link.lines) || is_lost_by_chance from number link

-- the octets that wait before the direction from a side at this tick
abbrev pub octets_waiting : {C : Type 0} → Side → ℕ → LinkState C → ℕ
octets_waiting from now link = octets_left (rate_of from link) now (waiting_of from link)

-- the queue has no room for so many octets
abbrev pub is_refused : {C : Type 0} → Side → ℕ → ℕ → LinkState C → Bool
is_refused from length now link = is_full (rate_of from link) now (on_its_way length) (waiting_of from link)

-- what becomes of one that is lost at once, or that the queue has no room for
abbrev pub fate_by : Bool → Bool → Fate → Fate
fate_by lost refused told = if lost then Lost else (if refused then Full else told)

-- what becomes of the segment of this number, of so many octets, that is handed over at this tick
abbrev pub fate_at : {C : Type 0} → Side → ℕ → ℕ → ℕ → LinkState C → Fate
fate_at from number length now link =
    fate_by (is_lost_at_once from number link) (is_refused from length now link) (fate_of from number link.lines)

-- what waits with it
abbrev pub waiting_with : {C : Type 0} → Side → ℕ → ℕ → LinkState C → Waiting
waiting_with from length now link = queued (rate_of from link) now (on_its_way length) (waiting_of from link)

-- what waits after it was handed over; of one that is lost nothing does
abbrev pub waiting_after : {C : Type 0} → Side → ℕ → ℕ → ℕ → LinkState C → Waiting
waiting_after from number length now link =
    if is_lost_at_once from number link then waiting_of from link else (if is_refused from length now link then waiting_of from link else waiting_with from length now link)

-- both
abbrev pub passage : {C : Type 0} → Side → ℕ → ℕ → ℕ → LinkState C → Passage
passage from number length now link = record { fate = fate_at from number length now link; waiting = waiting_after from number length now link }

-- the ticks that it waits: until the queue has handed it on, and those that are drawn
abbrev pub ticks_waited : {C : Type 0} → Side → ℕ → ℕ → ℕ → LinkState C → ℕ
ticks_waited from number length now link =
    ticks_queued (rate_of from link) (waiting_after from number length now link) + ticks_drawn (shape_of from link.lines).jitter (drawn_word link.seed (jitter_stream link.path from) (number - 1))

-- the tick at which it arrives, unless a line on it says otherwise
abbrev pub first_arrival : {C : Type 0} → Side → ℕ → ℕ → ℕ → LinkState C → ℕ
first_arrival from number length now link = now + link.delay + ticks_waited from number length now link

-- The link takes a segment of so many octets from a side at this tick: what the script's lines say of its number and of the
-- direction becomes of it.
abbrev pub after_send : {C : Type 0} → (Side → C → C) → (Side → C → C) → Side → C → ℕ → ℕ → LinkState C → LinkState C
after_send strip alter from carried length now link =
    let number = next_number from link in
    let arriving = changed (strip from) (alter from) (is_stripped from number now link.lines) (is_altered from number link.lines) carried in
    let flights = with_flights (peer from) number arriving (arrivals (fate_at from number length now link) (first_arrival from number length now link)) link.under_way in
    one_more from (with_waiting from (waiting_after from number length now link) (record link { under_way = flights }))

-- what becomes of the segment of this number, of so many octets, that is handed over at this tick
abbrev pub segment_fate : {C : Type 0} → Side → ℕ → ℕ → ℕ → LinkState C → SegmentFate
segment_fate from number length now link = record {
  arrival = cut_short link.lines (first_arrival from number length now link) (fate_at from number length now link);
  waited = ticks_waited from number length now link;
  queued = octets_left (rate_of from link) now (waiting_after from number length now link);
  stripped = is_stripped from number now link.lines;
  altered = is_altered from number link.lines;
}

-- ---- arrivals

-- when a copy arrives, at which side, and its number
abbrev pub due_of : {C : Type 0} → Flight C → Due
due_of f = record { tick = f.tick; to = f.to; copy = f.number }

-- the earliest arrival, where something is under way
abbrev pub next_due : {C : Type 0} → List (Flight C) → Option Due
next_due [] = None
next_due (f ∷ flights) = Some (due_of f)

-- a copy is the one that arrives there and then
abbrev pub is_due : {C : Type 0} → Due → Flight C → Bool
is_due due f = f.tick == due.tick && (same_side f.to due.to && f.number == due.copy)

-- the first copy that arrives there and then, where something does
abbrev pub arriving : {C : Type 0} → Due → LinkState C → Option (Flight C)
arriving due link = find (is_due due) link.under_way

-- the copies but the one in this place, if there is a place
abbrev pub without : {C : Type 0} → Option ℕ → List (Flight C) → List (Flight C)
without (Some place) flights = remove flights place
without None flights = flights

-- the copy that is due is under way no more
abbrev pub after_delivery : {C : Type 0} → Due → LinkState C → LinkState C
after_delivery due link = record link { under_way = without (position (is_due due) link.under_way) link.under_way }

-- the link dies: nothing that is under way arrives
abbrev pub after_cut : {C : Type 0} → LinkState C → LinkState C
after_cut link = record link { under_way = [] }
