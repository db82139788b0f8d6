-- The segments of a trace as objects.
use Rattle.std.specs.Prelude.{ℕ, ◌+◌, ◌==◌, nat_lt, Bool, if◌then◌else◌, Option, Some, None, Result, Ok, Err, List, [], ◌∷◌, ◌++◌, codes, map, slice_get, string_bytes}
use Rattle.std.specs.List.{flat_map}
use Rattle.link_model.specs.Steps.{arrivals}
use Rattle.link_model.specs.declared.fate.Fate.{Fate}
use Rattle.link_model.specs.declared.fate.Fate.TheVariants.{OnTime, Lost, Full, Late, Twice}
use Rattle.link_model.specs.declared.fate.SegmentFate.{SegmentFate}
use Rattle.link_script.specs.declared.script.PathLine.{PathLine}
use Rattle.link_trace.specs.Meanings.{meaning_in}
use Rattle.link_trace.specs.Points.{delay_on}
use Rattle.link_trace.specs.declared.carried.Carried.{Carried}
use Rattle.link_trace.specs.declared.sent.Sent.{Sent}
use Rattle.segment_wire.specs.declared.head.Head.{Head}
use Rattle.segment_wire.specs.declared.reading.SegmentFault.{SegmentFault}
use Rattle.segment_wire.specs.Options.{option_octets}
use Rattle.segment_wire.specs.Segment.{Segment}
use Rattle.serde_json.specs.Data.{Data, Members, null, boolean, number, unsigned, string, array, object, member, no_members, put}
use Rattle.serde_json.specs.View.{items_of}
use Rattle.trace_json.specs.Fields.{number_or_null, side_letter}
use Rattle.trace_json.specs.Options.{options_data}
use Rattle.trace_json.specs.declared.segments.Beside.{Beside}

-- what the segments of a trace are told by, beside themselves: the lines of the paths, the tick at which the run ended, whether checksums
-- of data are used, what each segment carries, and the words of each one
pub record Others : Type 0 where
  pub paths : List PathLine
  pub end : ℕ
  pub checksums : Bool
  pub carried : List Carried
  pub words : List (List ℕ)

abbrev pub beside_of : Beside → Others
beside_of b = record { paths = b.paths.now; end = b.end; checksums = b.checksums; carried = b.carried.now; words = map string_bytes b.words.now }

-- ---- what becomes of it

-- a copy at this tick, where it comes before the run ends
abbrev pub arrival_at : ℕ → ℕ → List Data
arrival_at end tick = if nat_lt tick end then number (unsigned tick) ∷ [] else []

-- the ticks of the copies that arrive after so many ticks and those that it waited: none of a lost one, two of one that is repeated
abbrev pub ticks_over : Option ℕ → ℕ → Sent → List Data
ticks_over (Some delay) end s = flat_map (arrival_at end) (arrivals s.fate.arrival (s.tick + delay + s.fate.waited))
ticks_over None end s = []

abbrev pub ticks_data : List PathLine → ℕ → Sent → List Data
ticks_data paths end s = ticks_over (delay_on s.path paths) end s

abbrev pub arrival_word : Fate → List ℕ
arrival_word OnTime = codes "on time"
arrival_word Lost = codes "lost"
arrival_word Full = codes "queue full"
arrival_word (Late ticks) = codes "late"
arrival_word (Twice ticks) = codes "repeated"

abbrev pub fate_data : SegmentFate → List Data → Data
fate_data f ticks = object (
    member (codes "altered") (boolean f.altered) (
    member (codes "arrival") (string (arrival_word f.arrival)) (
    member (codes "stripped") (boolean f.stripped) (
    member (codes "ticks") (array (items_of ticks)) no_members))))

abbrev pub with_fate : SegmentFate → List Data → Members → Members
with_fate f ticks ms =
    put (codes "stripped") (boolean f.stripped) (
    put (codes "arrival") (string (arrival_word f.arrival)) (
    put (codes "altered") (boolean f.altered) (
    put (codes "ticks") (array (items_of ticks)) ms)))

-- ---- what it carries

-- the place of its first octet of payload, where it has one
abbrev pub place_told : Carried → Option ℕ
place_told c = if c.len == 0 then None else c.place

abbrev pub carried_data : Carried → Data
carried_data c = object (
    member (codes "acknowledged") (number_or_null c.acknowledged) (
    member (codes "length") (number (unsigned c.len)) (
    member (codes "place") (number_or_null (place_told c)) (
    member (codes "position") (number (unsigned c.position)) no_members))))

abbrev pub data_of : Option Carried → Data
data_of None = null
data_of (Some c) = carried_data c

abbrev pub text_data : Option (List ℕ) → Data
text_data None = null
text_data (Some words) = string words

abbrev pub letter_if : Bool → List ℕ → List ℕ
letter_if flag letter = if flag then letter else []

-- a letter for each flag that is set, and a point for ACK
abbrev pub flag_letters : Head → List ℕ
flag_letters head =
    letter_if head.fin (codes "F") ++ (letter_if head.syn (codes "S") ++ (letter_if head.rst (codes "R") ++ letter_if head.ack_set (codes ".")))

-- octets that are no segment have none
abbrev pub flags_data : Result Segment SegmentFault → Data
flags_data (Ok segment) = string (flag_letters segment.head)
flags_data (Err fault) = null

abbrev pub options_of : Bool → Result Segment SegmentFault → List Data
options_of checksums (Ok segment) = options_data checksums (option_octets segment.options)
options_of checksums (Err fault) = []

-- ---- a segment

-- which one it is, its flags and options, what becomes of it, what it carries and its words, each put to other members
abbrev pub with_sent : Sent → Members → Members
with_sent s ms =
    put (codes "tick") (number (unsigned s.tick)) (
    put (codes "path") (number (unsigned s.path)) (
    put (codes "number") (number (unsigned s.number)) (
    put (codes "from") (string (side_letter s.from)) ms)))

abbrev pub with_header : Bool → Sent → Members → Members
with_header checksums s ms =
    put (codes "options") (array (items_of (options_of checksums (meaning_in s)))) (
    put (codes "flags") (flags_data (meaning_in s)) ms)

abbrev pub with_end : Others → Sent → Members → Members
with_end others s ms = put (codes "fate") (fate_data s.fate (ticks_data others.paths others.end s)) ms

abbrev pub with_told : Others → ℕ → Members → Members
with_told others place ms =
    put (codes "text") (text_data (slice_get others.words place)) (
    put (codes "data") (data_of (slice_get others.carried place)) ms)

abbrev pub with_segment : Others → ℕ → Sent → Members → Members
with_segment others place s ms = with_told others place (with_end others s (with_header others.checksums s (with_sent s ms)))

-- the one of this place of the trace
abbrev pub segment_data : Others → ℕ → Sent → Data
segment_data others place s = object (
    member (codes "data") (data_of (slice_get others.carried place)) (
    member (codes "fate") (fate_data s.fate (ticks_data others.paths others.end s)) (
    member (codes "flags") (flags_data (meaning_in s)) (
    member (codes "from") (string (side_letter s.from)) (
    member (codes "number") (number (unsigned s.number)) (
    member (codes "options") (array (items_of (options_of others.checksums (meaning_in s)))) (
    member (codes "path") (number (unsigned s.path)) (
    member (codes "text") (text_data (slice_get others.words place)) (
    member (codes "tick") (number (unsigned s.tick)) no_members)))))))))

-- the segments from this place of the trace on
abbrev pub segments_from : Others → ℕ → List Sent → List Data
segments_from others place [] = []
segments_from others place (s ∷ trace) = segment_data others place s ∷ segments_from others (place + 1) trace

abbrev pub segments_data : Others → List Sent → List Data
segments_data others trace = segments_from others 0 trace
