-- The capture of a run of ours, judged.
use Rattle.std.specs.Prelude.{◌≡◌, ℕ, ◌<◌, true, false, Option, Some, option_map, List, length, Ok}
use Rattle.std.specs.List.{slice_get}
use Rattle.sides.specs.Side.{peer}
use Rattle.sides.specs.declared.side.Side.{Side}
use Rattle.actor_desk.specs.Words.{pick}
use Rattle.octet_text.specs.Prefix.{IsPrefix}
use Rattle.capture_verdict.specs.Sent.{IsSent}
use Rattle.judge_rules.specs.declared.acks.ToldPlace.{ToldPlace}
use Rattle.judge_rules.specs.declared.finding.Rule.{Rule}
use Rattle.link_trace.specs.Captures.{blocks_of}
use Rattle.path_core.specs.Octets.{octets}
use Rattle.pcap_text.specs.Blocks.{capture_text}
use Rattle.run_trace.specs.Trace.{trace_of}
use Rattle.seen_streams.specs.State.{StreamValue}
use Rattle.rule_book.specs.State.{JudgedValue}
use Rattle.capture_verdict.specs.Judging.{judged_capture}
use Rattle.judge_laws.specs.GoesOn.{broke, stream_in}
use Rattle.world_laws.specs.Openings.{Start, opened_world}
use Rattle.world_laws.specs.NeverFalls.{IsWhole}
use Rattle.world_laws.specs.Outcomes.{outcome_of, output_of}
use Rattle.world_laws.specs.Promises.{HasRoom, IsPlain, NumbersFit}
use Rattle.world_laws.specs.Worlds.{Turn, all_over, world_run}
use Rattle.actor_desk.specs.Books.{books_in}
use Rattle.actor_desk.specs.Desk.{send_of}
use Rattle.stream_lanes.specs.Marks.{tried}
use Rattle.world_laws.specs.declared.outcome.Outcome.TheVariants.{Delivered}
use Rattle.own_runs.specs.Fitting.{RunFits}

-- the capture of a connection after these turns, as a side sees it
abbrev pub capture_of : Start → List Turn → Side → List ℕ
capture_of start turns side = capture_text (blocks_of side (length start.paths) (trace_of turns (opened_world start)))

-- of each stream that the judge finds in the capture of a connection, whatever its script does, in whatever order its actors go, and wherever
-- the judge takes it to be captured
abbrev pub OfRuns : (Start → Side → StreamValue → Type 0) → Type 0
OfRuns Holds = (start : Start) (turns : List Turn) → HasRoom start → NumbersFit start → RunFits start turns
    → (side : Side) (at : Option Side) (judged : JudgedValue) → judged_capture at true (capture_of start turns side) ≡ Ok judged
    → (connection : ℕ) (s : Side) (stream : StreamValue) → stream_in judged connection s ≡ Some stream → Holds start s stream

-- its side didn't break this rule
abbrev pub NoRunBreaks : Rule → Type 0
NoRunBreaks rule = OfRuns (λ start s stream. broke rule stream ≡ false)

-- of each stream that the judge finds in the capture of a connection whose script alters no payload and takes no options away
abbrev pub OfWholeRuns : (Start → Side → StreamValue → Type 0) → Type 0
OfWholeRuns Holds = (start : Start) (turns : List Turn) → IsPlain start → IsWhole start → NumbersFit start → RunFits start turns
    → (side : Side) (at : Option Side) (judged : JudgedValue) → judged_capture at true (capture_of start turns side) ≡ Ok judged
    → (connection : ℕ) (s : Side) (stream : StreamValue) → stream_in judged connection s ≡ Some stream → Holds start s stream

-- its side didn't break this rule
abbrev pub NoWholeRunBreaks : Rule → Type 0
NoWholeRunBreaks rule = OfWholeRuns (λ start s stream. broke rule stream ≡ false)

-- nor in that of one whose script alters no payload, whatever options it takes away
abbrev pub NoPlainRunBreaks : Rule → Type 0
NoPlainRunBreaks rule = (start : Start) (turns : List Turn) → IsPlain start → NumbersFit start → RunFits start turns
    → (side : Side) (at : Option Side) (judged : JudgedValue) → judged_capture at true (capture_of start turns side) ≡ Ok judged
    → (connection : ℕ) (s : Side) (stream : StreamValue) → stream_in judged connection s ≡ Some stream → broke rule stream ≡ false

abbrev pub file_of : Start → Side → List ℕ
file_of start s = pick s start.file_a start.file_b

-- What is written of it, up to the first octet that isn't there, is a first part of its side's file.
abbrev pub StreamsBeginTheFiles : Type 0
StreamsBeginTheFiles = OfRuns (λ start s stream. (octets : List ℕ) → IsSent stream.octet octets → IsPrefix octets (file_of start s))

-- Each octet of it that was seen is there, and is the file's: none was cut off.
abbrev pub SeenOctetsAreTheFiles : Type 0
SeenOctetsAreTheFiles = OfRuns (λ start s stream. (place : ℕ) → stream.seen place ≡ true
    → (place < length (file_of start s)) × (option_map (λ held. held.octet) (stream.octet place) ≡ slice_get (file_of start s) place))

-- Its DATA_FIN stands behind the last octet of the file.
abbrev pub DataFinsEndTheFiles : Type 0
DataFinsEndTheFiles = OfRuns (λ start s stream. (fin : ToldPlace) → stream.fin ≡ Some fin → fin.place ≡ length (file_of start s))

-- What the judge finds of a side in a capture's first connection is its whole file, and the DATA_FIN behind it.
pub record ShowsTheFile (start : Start) (s : Side) (judged : JudgedValue) : Type 0 where
  pub stream : StreamValue
  pub there : stream_in judged 0 s ≡ Some stream
  pub whole : IsSent stream.octet (file_of start s)
  pub fin : ToldPlace
  pub ended : stream.fin ≡ Some fin
  pub behind : fin.place ≡ length (file_of start s)

-- Once such a run is delivered its capture is read, and shows both files.
abbrev pub DeliveredRunsShowTheFiles : Type 0
DeliveredRunsShowTheFiles =
    (start : Start) (turns : List Turn) → IsPlain start → IsWhole start → NumbersFit start → RunFits start turns
    → outcome_of (world_run octets turns (opened_world start)).crew ≡ Delivered → (side : Side) (at : Option Side)
    → (judged : JudgedValue) × (judged_capture at true (capture_of start turns side) ≡ Ok judged) × ((s : Side) → ShowsTheFile start s judged)

-- the octet of this place of a side's stream was seen, in a capture's first connection
pub record WasSeen (judged : JudgedValue) (s : Side) (place : ℕ) : Type 0 where
  pub stream : StreamValue
  pub there : stream_in judged 0 s ≡ Some stream
  pub seen : stream.seen place ≡ true

-- As a round ends, where each actor's turn is over, no octet waits: each that was granted to a path, and isn't acknowledged, was seen.
abbrev pub TriedOctetsAreSeen : Type 0
TriedOctetsAreSeen =
    (start : Start) (turns : List Turn) → IsPlain start → IsWhole start → NumbersFit start → RunFits start turns
    → all_over (world_run octets turns (opened_world start)).crew ≡ true
    → (side : Side) (at : Option Side) (judged : JudgedValue) → judged_capture at true (capture_of start turns side) ≡ Ok judged
    → (s : Side) (path place : ℕ) → path < length start.paths
    → tried path (slice_get (send_of s (books_in (world_run octets turns (opened_world start)).books)).marks place) ≡ true → WasSeen judged s place

-- After these turns the octet that the other side's application has read at this place stands there in a capture's first connection, and was seen.
pub record HasRead (start : Start) (turns : List Turn) (judged : JudgedValue) (s : Side) (place : ℕ) : Type 0 where
  pub stream : StreamValue
  pub there : stream_in judged 0 s ≡ Some stream
  pub seen : stream.seen place ≡ true
  pub octet : option_map (λ held. held.octet) (stream.octet place) ≡ slice_get (output_of (peer s) (world_run octets turns (opened_world start))) place

-- An application has read nothing that the capture doesn't show, at no moment of such a run.
abbrev pub ReadersGetWhatIsShown : Type 0
ReadersGetWhatIsShown =
    (start : Start) (turns : List Turn) → IsPlain start → IsWhole start → NumbersFit start → RunFits start turns
    → (side : Side) (at : Option Side) (judged : JudgedValue) → judged_capture at true (capture_of start turns side) ≡ Ok judged
    → (s : Side) (place : ℕ) → place < length (output_of (peer s) (world_run octets turns (opened_world start))) → HasRead start turns judged s place

-- Where all octets before the DATA_FIN are there, it is the file.
abbrev pub WholeStreamsAreTheFiles : Type 0
WholeStreamsAreTheFiles = OfRuns (λ start s stream. (fin : ToldPlace) → stream.fin ≡ Some fin
    → (octets : List ℕ) → IsSent stream.octet octets → length octets ≡ fin.place → octets ≡ file_of start s)
