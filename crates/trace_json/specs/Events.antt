-- What happens on the paths of a script, as objects, by the first word of its line.
use Rattle.std.specs.Prelude.{ℕ, Bool, Option, Some, None, List, codes, map}
use Rattle.link_script.specs.declared.script.Direction.{Direction}
use Rattle.link_script.specs.declared.script.Happens.{Happens}
use Rattle.link_script.specs.declared.script.Happens.TheVariants.{Lost, Late, Again, Stripped, Altered}
use Rattle.link_script.specs.declared.script.Impairment.{Impairment}
use Rattle.link_script.specs.declared.script.Impairment.TheVariants.{Rate, Loss, Jitter}
use Rattle.link_script.specs.declared.script.ScriptLine.{ScriptLine}
use Rattle.link_script.specs.declared.script.ScriptLine.TheVariants as line
use Rattle.link_script.specs.declared.script.Segment.{Segment}
use Rattle.sides.specs.declared.side.Side.{Side}
use Rattle.serde_json.specs.Data.{Data, boolean, number, unsigned, string, object, member, no_members}
use Rattle.trace_json.specs.Fields.{number_or_null, side_letter}

abbrev pub happens_word : Happens → List ℕ
happens_word Lost = codes "drop"
happens_word (Late ticks) = codes "late"
happens_word (Again ticks) = codes "dup"
happens_word Stripped = codes "strip"
happens_word Altered = codes "alter"

-- how many ticks late it comes, or comes again
abbrev pub happens_ticks : Happens → Option ℕ
happens_ticks (Late ticks) = Some ticks
happens_ticks (Again ticks) = Some ticks
happens_ticks _ = None

-- the path, the side that sends, and the number of the segment in its direction
abbrev pub segment_event_data : Segment → Happens → Data
segment_event_data segment happens = object (
    member (codes "event") (string (happens_word happens)) (
    member (codes "from") (string (side_letter segment.from)) (
    member (codes "number") (number (unsigned segment.number)) (
    member (codes "path") (number (unsigned segment.path)) (
    member (codes "ticks") (number_or_null (happens_ticks happens)) no_members)))))

-- the octets that a direction hands on a tick, and the most that wait
abbrev pub rate_data : Direction → ℕ → ℕ → Data
rate_data direction octets queue = object (
    member (codes "event") (string (codes "rate")) (
    member (codes "from") (string (side_letter direction.from)) (
    member (codes "octets") (number (unsigned octets)) (
    member (codes "path") (number (unsigned direction.path)) (
    member (codes "queue") (number (unsigned queue)) no_members)))))

-- how many of a million segments a direction loses
abbrev pub loss_data : Direction → ℕ → Data
loss_data direction parts = object (
    member (codes "event") (string (codes "loss")) (
    member (codes "from") (string (side_letter direction.from)) (
    member (codes "parts") (number (unsigned parts)) (
    member (codes "path") (number (unsigned direction.path)) no_members))))

-- the most ticks that a segment of a direction waits, as drawn
abbrev pub jitter_data : Direction → ℕ → Data
jitter_data direction ticks = object (
    member (codes "event") (string (codes "jitter")) (
    member (codes "from") (string (side_letter direction.from)) (
    member (codes "path") (number (unsigned direction.path)) (
    member (codes "ticks") (number (unsigned ticks)) no_members))))

abbrev pub impairment_data : Direction → Impairment → Data
impairment_data direction (Rate octets queue) = rate_data direction octets queue
impairment_data direction (Loss parts) = loss_data direction parts
impairment_data direction (Jitter ticks) = jitter_data direction ticks

abbrev pub strip_all_data : ℕ → Side → ℕ → Data
strip_all_data path from tick = object (
    member (codes "event") (string (codes "strip-all")) (
    member (codes "from") (string (side_letter from)) (
    member (codes "path") (number (unsigned path)) (
    member (codes "tick") (number (unsigned tick)) no_members))))

abbrev pub death_data : ℕ → ℕ → Data
death_data path tick = object (
    member (codes "event") (string (codes "die")) (
    member (codes "path") (number (unsigned path)) (
    member (codes "tick") (number (unsigned tick)) no_members)))

abbrev pub prio_data : ℕ → Side → ℕ → Bool → Data
prio_data path side tick on = object (
    member (codes "event") (string (codes "prio")) (
    member (codes "on") (boolean on) (
    member (codes "path") (number (unsigned path)) (
    member (codes "side") (string (side_letter side)) (
    member (codes "tick") (number (unsigned tick)) no_members)))))

-- B alone announces addresses
abbrev pub add_data : ℕ → ℕ → Data
add_data id tick = object (
    member (codes "event") (string (codes "add")) (
    member (codes "id") (number (unsigned id)) (
    member (codes "side") (string (codes "b")) (
    member (codes "tick") (number (unsigned tick)) no_members))))

abbrev pub remove_data : Side → ℕ → ℕ → Data
remove_data side id tick = object (
    member (codes "event") (string (codes "remove")) (
    member (codes "id") (number (unsigned id)) (
    member (codes "side") (string (side_letter side)) (
    member (codes "tick") (number (unsigned tick)) no_members))))

abbrev pub fast_close_data : Side → ℕ → Data
fast_close_data side tick = object (
    member (codes "event") (string (codes "fastclose")) (
    member (codes "side") (string (side_letter side)) (
    member (codes "tick") (number (unsigned tick)) no_members)))

abbrev pub event_data : ScriptLine → Data
event_data (line.OnSegment segment happens) = segment_event_data segment happens
event_data (line.OnDirection direction impairment) = impairment_data direction impairment
event_data (line.StripAll path from tick) = strip_all_data path from tick
event_data (line.Die path tick) = death_data path tick
event_data (line.Prio path side tick on) = prio_data path side tick on
event_data (line.Add id tick) = add_data id tick
event_data (line.Remove side id tick) = remove_data side id tick
event_data (line.FastClose side tick) = fast_close_data side tick

abbrev pub events_data : List ScriptLine → List Data
events_data lines = map event_data lines
