-- A line for each segment of a trace.
use Rattle.std.specs.Prelude.{ℕ, Bool, if◌then◌else◌, Option, option_map, List, [], ◌∷◌, ◌++◌, codes}
use Rattle.std.specs.Fmt.{decimal}
use Rattle.std.specs.List.{flat_map}
use Rattle.sides.specs.declared.side.Side.{Side}
use Rattle.sides.specs.declared.side.Side.TheVariants.{A, B}
use Rattle.sides.specs.Side.{peer}
use Rattle.link_model.specs.declared.fate.SegmentFate.{SegmentFate}
use Rattle.link_trace.specs.declared.segment.Initials.{Initials}
use Rattle.link_trace.specs.Segments.{words_of}
use Rattle.link_trace.specs.declared.sent.Sent.{Sent}
use Rattle.link_trace.specs.Fates.{is_plain, fate_words}
use Rattle.link_trace.specs.declared.meanings.Syn.{Syn}
use Rattle.link_trace.specs.declared.multipath.DataInitials.{DataInitials}
use Rattle.link_trace.specs.declared.text.InitialData.{InitialData}
use Rattle.link_trace.specs.Meanings.{agreed, first_syn, meaning_in}

abbrev pub way_word : Side → List ℕ
way_word A = codes "a > b"
way_word B = codes "b > a"

abbrev pub number_of : Option Syn → Option ℕ
number_of syn = option_map (λ (s : Syn). s.number) syn

-- of the stream of this side
abbrev pub initial_of : Side → InitialData → ℕ
initial_of A initials = initials.a
initial_of B initials = initials.b

-- those of both streams, as a side sees them
abbrev pub streams_of : Option InitialData → Side → DataInitials
streams_of initials from = record { own = option_map (initial_of from) initials; peer = option_map (initial_of (peer from)) initials }

-- from what its numbers count: what the SYNs of both directions of its path tell, and these initial data numbers
abbrev pub initials_of : Option InitialData → List Sent → Sent → Initials
initials_of initials trace s =
    let own = first_syn s.path s.from trace in let other = first_syn s.path (peer s.from) trace in
    record { own = number_of own; peer = number_of other; streams = streams_of initials s.from; shift = agreed own other }

-- its tick, its path, its direction
abbrev pub place_words : Sent → List ℕ
place_words s = decimal s.tick ++ (codes " path " ++ (decimal s.path ++ (codes " " ++ (way_word s.from ++ codes ": "))))

-- what becomes of it, where it doesn't arrive once, on time and as it was sent
abbrev pub note_words : SegmentFate → List ℕ
note_words f = if is_plain f then [] else codes " (" ++ (fate_words f ++ codes ")")

-- what it is and what becomes of it; the line ends with LF
abbrev pub line_of : Bool → Option InitialData → List Sent → Sent → List ℕ
line_of checksums initials trace s =
    place_words s ++ (words_of (initials_of initials trace s) checksums (meaning_in s) ++ (note_words s.fate ++ 10 ∷ []))

-- over checksums of data or without them, data numbers relative to these initial ones, or as they stand without any
abbrev pub lines_of : Bool → Option InitialData → List Sent → List ℕ
lines_of checksums initials trace = flat_map (line_of checksums initials trace) trace
