-- What holds of every link, whatever its segments carry and whatever is changed of that on its way. The clauses speak of
-- octets, as the link carries them; the lemmas hold for everything that can be carried.
use Rattle.std.specs.Prelude.{◌≡◌, ℕ, ◌+◌, ◌-◌, ◌*◌, ◌≤◌, Bool, false, if◌then◌else◌, Some, List, [], ◌∷◌, ◌++◌, map, filter}
use Rattle.std.specs.List.{AllByRecursion}
use Rattle.sides.specs.declared.side.Side.{Side}
use Rattle.sides.specs.Side.{peer}
use Rattle.link_script.specs.declared.script.Happens.TheVariants.{Lost, Late, Again}
use Rattle.link_script.specs.declared.script.Impairment.TheVariants.{Jitter}
use Rattle.link_script.specs.declared.script.ScriptLine.{ScriptLine}
use Rattle.link_script.specs.declared.script.ScriptLine.TheVariants.{OnSegment, OnDirection}
use Rattle.link_script.specs.Places.{same_side}
use Rattle.link_model.specs.declared.flight.Flight.{Flight}
use Rattle.link_model.specs.declared.passage.Rate.{Rate}
use Rattle.link_model.specs.declared.passage.Waiting.{Waiting}
use Rattle.link_model.specs.Passage.{is_full, queued, ticks_queued}
use Rattle.link_model.specs.State.{LinkState}
use Rattle.link_model.specs.Steps.{next_number, rate_of, waiting_of, changed}
use Rattle.link_model.specs.Fate.{is_stripped, is_altered}

-- ---- a direction of which no line speaks

-- a line by which a segment from this side is lost, late or repeated, or waits
abbrev pub moves : Side → ScriptLine → Bool
moves from (OnSegment segment Lost) = same_side segment.from from
moves from (OnSegment segment (Late ticks)) = same_side segment.from from
moves from (OnSegment segment (Again ticks)) = same_side segment.from from
moves from (OnDirection direction impairment) = same_side direction.from from
moves from line = false

-- the copies that go to a side, in the order of their arrival
abbrev pub going_to : {C : Type 0} → Side → List (Flight C) → List (Flight C)
going_to to flights = filter (λ f. same_side f.to to) flights

-- each of these copies arrives at this tick or before, and none has a greater number than this one
abbrev pub WereSentBefore : {C : Type 0} → ℕ → ℕ → List (Flight C) → Type 0
WereSentBefore number tick flights = AllByRecursion (λ f. (f.tick ≤ tick) × (f.number ≤ number)) flights

-- the one copy of the next segment from a side, which is due a delay after it is sent at this tick
abbrev pub plain_flight : {C : Type 0} → (Side → C → C) → (Side → C → C) → Side → C → ℕ → LinkState C → Flight C
plain_flight strip alter from carried now link = record {
  tick = now + link.delay;
  to = peer from;
  number = next_number from link;
  carried = changed (strip from) (alter from) (is_stripped from (next_number from link) now link.lines) (is_altered from (next_number from link) link.lines) carried;
}

-- ---- what is carried

-- the copies with something else in the place of what they carry
abbrev pub shown_flight : {C D : Type 0} → (C → D) → Flight C → Flight D
shown_flight show f = record { tick = f.tick; to = f.to; number = f.number; carried = show f.carried }

-- a link with each of its copies shown so
abbrev pub with_copies_shown : {C D : Type 0} → (C → D) → LinkState C → LinkState D
with_copies_shown show link = record {
  path = link.path;
  delay = link.delay;
  lines = link.lines;
  seed = link.seed;
  from_a = link.from_a;
  from_b = link.from_b;
  waits_a = link.waits_a;
  waits_b = link.waits_b;
  under_way = map (shown_flight show) link.under_way;
}

-- ---- a direction with a rate

-- a line by which a segment from this side is late or repeated, or waits for ticks that are drawn
abbrev pub delays : Side → ScriptLine → Bool
delays from (OnSegment segment (Late ticks)) = same_side segment.from from
delays from (OnSegment segment (Again ticks)) = same_side segment.from from
delays from (OnDirection direction (Jitter ticks)) = same_side direction.from from
delays from line = false

-- the tick at which a copy without an octet would arrive
abbrev pub free_at : {C : Type 0} → Side → ℕ → LinkState C → ℕ
free_at from now link = now + link.delay + ticks_queued (rate_of from link) (queued (rate_of from link) now 0 (waiting_of from link))

-- some flights are the first of a list
abbrev pub AreFirst : {C : Type 0} → List (Flight C) → List (Flight C) → Type 0
AreFirst {C} before flights = (more : List (Flight C)) × (flights ≡ before ++ more)

-- of segments of so many octets, handed over at these ticks, those that find room: the tick in which each is handed on, and its octets
abbrev pub handed_on : Rate → Waiting → List (ℕ × ℕ) → List (ℕ × ℕ)
handed_on rate w [] = []
handed_on rate w (s ∷ segments) =
    if is_full (Some rate) s.0 s.1 w then handed_on rate w segments
    else (s.0 + ticks_queued (Some rate) (queued (Some rate) s.0 s.1 w), s.1) ∷ handed_on rate (queued (Some rate) s.0 s.1 w) segments

-- each at the tick of the one before or later, the first not before this one
abbrev pub AreLater : ℕ → List (ℕ × ℕ) → Type 0
AreLater tick [] = Unit {0}
AreLater tick (s ∷ segments) = (tick ≤ s.0) × AreLater s.0 segments

-- with so many octets that were handed on since this tick, no more come by any later one than the rate times the ticks
abbrev pub IsWithin : Rate → ℕ → ℕ → List (ℕ × ℕ) → Type 0
IsWithin rate first sum [] = Unit {0}
IsWithin rate first sum (s ∷ segments) = (sum + s.1 ≤ rate.octets * (s.0 + 1 - first)) × IsWithin rate first (sum + s.1) segments

-- from each segment on, what comes behind it is within the rate
abbrev pub IsPaced : Rate → List (ℕ × ℕ) → Type 0
IsPaced rate [] = Unit {0}
IsPaced rate (s ∷ segments) = IsWithin rate s.0 0 segments × IsPaced rate segments
