-- What the segments of a run say of what they bear, where its script alters nothing and takes no options away.
use Rattle.std.specs.Prelude.{◌≡◌, ℕ, ◌<◌, ◌⊎◌, Some, List, [], length, take}
use Rattle.std.specs.List.{slice_get}
use Rattle.sides.specs.Side.{peer}
use Rattle.sides.specs.declared.side.Side.{Side}
use Rattle.link_trace.specs.declared.sent.Sent.{Sent}
use Rattle.mptcp_options.specs.declared.capable.CapableKeys.TheVariants.{WithData}
use Rattle.path_core.specs.Octets.{made, octets}
use Rattle.path_segments.specs.Options.{PlainOption}
use Rattle.path_segments.specs.Spelled.{PlainSegment}
use Rattle.path_segments.specs.declared.segment.PathMapping.TheVariants.{Bytes, End}
use Rattle.path_segments.specs.declared.segment.PathOption.TheVariants.{Capable, Dss}
use Rattle.path_segments.specs.declared.spelling.Spelling.{Spelling}
use Rattle.run_trace.specs.Trace.{trace_of}
use Rattle.stream_lanes.specs.Words.{Every, Has}
use Rattle.world_laws.specs.NeverFalls.{IsWhole}
use Rattle.world_laws.specs.Openings.{Start, opened_world}
use Rattle.world_laws.specs.Outcomes.{outcome_of}
use Rattle.world_laws.specs.Promises.{IsPlain, NumbersFit}
use Rattle.world_laws.specs.Worlds.{Turn, world_run}
use Rattle.world_laws.specs.declared.outcome.Outcome.TheVariants.{Delivered}
use Rattle.own_runs.specs.Fitting.{RunFits}
use Rattle.own_runs.specs.Runs.{file_of}
use Rattle.own_runs.specs.Sending.{CarriesPlace}

-- a mapping of so many octets at this position, by a DSS (RFC 8684, section 3.3.1), or by the MP_CAPABLE of the first octets (section 3.1)
abbrev pub MapsAll : ℕ → ℕ → PlainOption → Type 0
MapsAll position size (Dss next (Some (Bytes place at len fin checksum))) = (at ≡ position) × (len ≡ size)
MapsAll position size (Capable flag_a flag_c (WithData sender receiver len checksum)) = (position ≡ 1) × (len ≡ size)
MapsAll position size _ = ⊥

-- a DATA_FIN at this place (RFC 8684, section 3.3.3)
abbrev pub IsDataFin : ℕ → PlainOption → Type 0
IsDataFin place (Dss next (Some (End at checksum))) = at ≡ place
IsDataFin place _ = ⊥

-- The segment of this side, as it was made, has a DATA_FIN behind the last octet of the side's file.
pub record EndsTheFile (start : Start) (s : Side) (x : Sent) : Type 0 where
  pub from : x.from ≡ s
  pub spelling : Spelling
  pub segment : PlainSegment
  pub octets : x.octets ≡ made spelling s segment
  pub fin : Has (IsDataFin (length (file_of start s))) segment.options

-- A Data ACK in it covers octets of the other side's file that were carried before, and the DATA_FIN behind them where that was told before.
abbrev pub AckIsTold : Start → List Sent → Side → PlainOption → Type 0
AckIsTold start before s (Dss (Some next) mapping) = (place : ℕ) → place < next
    → Has (CarriesPlace (peer s) (file_of start (peer s)) place) before
    ⊎ ((place ≡ length (file_of start (peer s))) × Has (EndsTheFile start (peer s)) before)
AckIsTold start before s _ = Unit {0}

-- The segment, as it was made: an option maps all of its payload, if it has any.
pub record SaysWhatItBears (start : Start) (before : List Sent) (x : Sent) : Type 0 where
  pub spelling : Spelling
  pub segment : PlainSegment
  pub octets : x.octets ≡ made spelling x.from segment
  pub maps : (segment.payload ≡ []) ⊎ Has (MapsAll segment.position (length segment.payload)) segment.options
  pub acks : Every (AckIsTold start before x.from) segment.options

-- So it is with each segment of a trace, and those before it.
abbrev pub EachSaysWhatItBears : Type 0
EachSaysWhatItBears =
    (start : Start) (turns : List Turn) → IsPlain start → IsWhole start → NumbersFit start → RunFits start turns
    → (i : ℕ) (x : Sent) → slice_get (trace_of turns (opened_world start)) i ≡ Some x
    → SaysWhatItBears start (take i (trace_of turns (opened_world start))) x

-- Where such a run is delivered each side told the DATA_FIN.
abbrev pub DeliveredRunsTellTheEnds : Type 0
DeliveredRunsTellTheEnds =
    (start : Start) (turns : List Turn) → IsPlain start → IsWhole start → NumbersFit start → RunFits start turns
    → outcome_of (world_run octets turns (opened_world start)).crew ≡ Delivered
    → (s : Side) → Has (EndsTheFile start s) (trace_of turns (opened_world start))
