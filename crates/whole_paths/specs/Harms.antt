-- Lines of a script by which segments are lost or come late, what they harm, and how long a segment is under way.
use Rattle.std.specs.Prelude.{ℕ, ◌+◌, ◌-◌, ◌^◌, ◌≡◌, ◌<◌, ◌≤◌, ◌⊎◌, ◌&&◌, ◌||◌, nat_lt, if◌then◌else◌, Bool, true, false, Option, Some, None, List, [], ◌∷◌}
use Rattle.std.specs.Int.{div_ceil}
use Rattle.sides.specs.declared.side.Side.{Side}
use Rattle.sides.specs.declared.side.Side.TheVariants.{A, B}
use Rattle.sides.specs.Side.{peer}
use Rattle.link_script.specs.declared.script.ScriptLine.{ScriptLine}
use Rattle.link_script.specs.declared.script.ScriptLine.TheVariants.{OnSegment}
use Rattle.link_script.specs.declared.script.Happens.TheVariants.{Lost, Late}
use Rattle.link_script.specs.Places.{same_side}
use Rattle.link_model.specs.declared.flight.Flight.{Flight}
use Rattle.link_model.specs.declared.passage.Rate.{Rate}
use Rattle.link_model.specs.Fate.{is_stripped, is_altered}
use Rattle.link_model.specs.State.{LinkState}
use Rattle.link_model.specs.Passage.{shape_of, plain_shape}
use Rattle.link_model.specs.Steps.{segments_sent, next_number, changed, is_lost_by_chance, is_refused, first_arrival, after_send}
use Rattle.stream_lanes.specs.Words.{Has}

-- by the line a segment from this side is lost or late whose number is above this one, so that it wasn't sent yet
abbrev pub is_unused : Side → ℕ → ScriptLine → Bool
is_unused from count (OnSegment segment Lost) = same_side segment.from from && nat_lt count segment.number
is_unused from count (OnSegment segment (Late ticks)) = same_side segment.from from && nat_lt count segment.number
is_unused from count _ = false

-- how many of these lines are so
abbrev pub unused : Side → ℕ → List ScriptLine → ℕ
unused from count [] = 0
unused from count (line ∷ lines) = (if is_unused from count line then 1 else 0) + unused from count lines

-- the ticks after which all is handed on that a full queue holds
abbrev pub full_queue_waits : Option Rate → ℕ
full_queue_waits None = 0
full_queue_waits (Some rate) = div_ceil rate.queue rate.octets

module _ {C : Type 0} where
  -- of a link's lines, for segments from both sides
  abbrev pub harms_left : LinkState C → ℕ
  harms_left link = unused A link.from_a link.lines + unused B link.from_b link.lines

  -- what arrives of the next segment from a side, which the lines may strip and alter
  abbrev pub as_it_arrives : (Side → C → C) → (Side → C → C) → Side → C → ℕ → LinkState C → C
  as_it_arrives strip alter from carried now link =
      let number = next_number from link in
      changed (strip from) (alter from) (is_stripped from number now link.lines) (is_altered from number link.lines) carried

  -- the direction loses the next segment from a side, of so many octets, by the word drawn for it or since its queue is full
  abbrev pub loses : Side → ℕ → ℕ → LinkState C → Bool
  loses from size now link = is_lost_by_chance from (next_number from link) link || is_refused from size now link

  -- the ticks that a segment from a side is under way at most, where no line on it makes it late: the delay, those of a full queue, and the
  -- greatest jitter
  abbrev pub longest_way : Side → LinkState C → ℕ
  longest_way from link = let shape = shape_of from link.lines in link.delay + full_queue_waits shape.rate + shape.jitter

  -- a copy of it that comes as soon as the direction hands it on
  pub record IsOnTime (from : Side) (size now : ℕ) (arriving : C) (link : LinkState C) (f : Flight C) : Type 0 where
    pub tick : f.tick ≡ first_arrival from (next_number from link) size now link
    pub in_time : f.tick ≤ now + longest_way from link
    pub to : f.to ≡ peer from
    pub number : f.number ≡ next_number from link
    pub carried : f.carried ≡ arriving

-- A segment that is sent uses a line, or the direction loses it, or a copy of it is under way that comes when it is handed on. So it is
-- with the first 2^64 - 2 from a side.
abbrev pub EachUsesALineOrComes : Type 0 → Type 0
EachUsesALineOrComes C = (strip alter : Side → C → C) (from : Side) (carried : C) (size now : ℕ) (link : LinkState C) → segments_sent from link < 2 ^ 64 - 1
    → let after = after_send strip alter from carried size now link in
    (harms_left after < harms_left link)
    ⊎ ((harms_left after ≤ harms_left link)
    × ((loses from size now link ≡ true) ⊎ Has (IsOnTime from size now (as_it_arrives strip alter from carried now link) link) after.under_way))

-- A direction without a rate, random loss and jitter loses none, and hands each on at once; none is under way for longer than the delay.
abbrev pub PlainDirectionsHandOnAtOnce : Type 0 → Type 0
PlainDirectionsHandOnAtOnce C = (from : Side) (size now : ℕ) (link : LinkState C) → shape_of from link.lines ≡ plain_shape
    → (loses from size now link ≡ false) × (first_arrival from (next_number from link) size now link ≡ now + link.delay)
    × (longest_way from link ≡ link.delay)
