-- What the lines of a link's script say of the segment of one number from one side. Segments count from 1 in each
-- direction.
use Rattle.std.specs.Prelude.{ℕ, ◌+◌, Bool, false, ◌&&◌, ◌==◌, nat_le, if◌then◌else◌, List, [], ◌∷◌, Option, Some, None}
use Rattle.std.specs.List.{list_any}
use Rattle.sides.specs.declared.side.Side.{Side}
use Rattle.link_script.specs.declared.script.Happens.{Happens}
use Rattle.link_script.specs.declared.script.Happens.TheVariants.{Lost, Late, Again, Stripped, Altered}
use Rattle.link_script.specs.declared.script.Segment.{Segment}
use Rattle.link_script.specs.declared.script.ScriptLine.{ScriptLine}
use Rattle.link_script.specs.declared.script.ScriptLine.TheVariants.{OnSegment, StripAll, Die}
use Rattle.link_script.specs.Places.{same_side}
use Rattle.link_model.specs.declared.fate.Fate.{Fate}
use Rattle.link_model.specs.declared.fate.Fate.TheVariants as fate

-- the segment of this side and number
abbrev pub is_named : Side → ℕ → Segment → Bool
is_named from number segment = same_side segment.from from && segment.number == number

-- what this says of a segment's arrival
abbrev pub arrival_told : Happens → Option Fate
arrival_told Lost = Some fate.Lost
arrival_told (Late ticks) = Some (fate.Late ticks)
arrival_told (Again ticks) = Some (fate.Twice ticks)
arrival_told Stripped = None
arrival_told Altered = None

-- the fate that a line tells, where it names the segment
abbrev pub told_if : Bool → Option Fate → Option Fate
told_if named told = if named then told else None

-- what a line says of the segment's arrival
abbrev pub fate_told : Side → ℕ → ScriptLine → Option Fate
fate_told from number (OnSegment segment happens) = told_if (is_named from number segment) (arrival_told happens)
fate_told from number line = None

-- the ticks that a fate tells
abbrev pub ticks_of : Fate → ℕ
ticks_of fate.OnTime = 0
ticks_of fate.Lost = 0
ticks_of fate.Full = 0
ticks_of (fate.Late ticks) = ticks
ticks_of (fate.Twice ticks) = ticks

-- what was told, or else the other fate
abbrev pub told_or : Option Fate → Fate → Fate
told_or (Some f) other = f
told_or None other = other

-- the first line that speaks of its arrival decides, and without one it comes on time
abbrev pub fate_of : Side → ℕ → List ScriptLine → Fate
fate_of from number [] = fate.OnTime
fate_of from number (line ∷ lines) = told_or (fate_told from number line) (fate_of from number lines)

-- a line by which a segment that is handed over at this tick loses its Multipath TCP options
abbrev pub is_stripped_by : Side → ℕ → ℕ → ScriptLine → Bool
is_stripped_by from number now (OnSegment segment Stripped) = is_named from number segment
is_stripped_by from number now (StripAll path side tick) = same_side side from && nat_le tick now
is_stripped_by from number now line = false

-- one of these lines does that
abbrev pub is_stripped : Side → ℕ → ℕ → List ScriptLine → Bool
is_stripped from number now lines = list_any (is_stripped_by from number now) lines

-- a line by which the segment's payload is altered
abbrev pub is_altered_by : Side → ℕ → ScriptLine → Bool
is_altered_by from number (OnSegment segment Altered) = is_named from number segment
is_altered_by from number line = false

-- one of these lines does that
abbrev pub is_altered : Side → ℕ → List ScriptLine → Bool
is_altered from number lines = list_any (is_altered_by from number) lines

-- a line by which the link dies at this tick or before it
abbrev pub has_died_by : ℕ → ScriptLine → Bool
has_died_by now (Die path tick) = nat_le tick now
has_died_by now line = false

-- by one of these lines a link is dead at this tick, so that nothing arrives then: at one tick lines come before copies
abbrev pub is_dead_at : List ScriptLine → ℕ → Bool
is_dead_at lines now = list_any (has_died_by now) lines

-- a copy that comes to a dead link doesn't arrive
abbrev pub lost_if : Bool → Fate → Fate
lost_if dead f = if dead then fate.Lost else f

-- of two copies the death may cut off both, or the second one alone
abbrev pub twice_unless : Bool → Bool → ℕ → Fate
twice_unless first_cut second_cut ticks = lost_if first_cut (if second_cut then fate.OnTime else fate.Twice ticks)

-- what comes of a fate on a link that dies, where the segment would arrive at this tick: a copy that the death cuts off doesn't arrive
abbrev pub cut_short : List ScriptLine → ℕ → Fate → Fate
cut_short lines on_time fate.OnTime = lost_if (is_dead_at lines on_time) fate.OnTime
cut_short lines on_time fate.Lost = fate.Lost
cut_short lines on_time fate.Full = fate.Full
cut_short lines on_time (fate.Late ticks) = lost_if (is_dead_at lines (on_time + ticks)) (fate.Late ticks)
cut_short lines on_time (fate.Twice ticks) = twice_unless (is_dead_at lines on_time) (is_dead_at lines (on_time + ticks)) ticks
