-- The octets of a file that the segments of a trace carry.
use Rattle.std.specs.Prelude.{◌≡◌, ℕ, ◌+◌, ◌<◌, ◌≤◌, List, [], ◌∷◌, ◌++◌, length, take, drop}
use Rattle.sides.specs.declared.side.Side.{Side}
use Rattle.segment_wire.specs.Reading.{header_len}
use Rattle.stream_lanes.specs.Words.{Has}
use Rattle.actor_desk.specs.Words.{pick}
use Rattle.link_trace.specs.declared.sent.Sent.{Sent}
use Rattle.path_core.specs.Octets.{octets}
use Rattle.run_trace.specs.Trace.{trace_of}
use Rattle.world_laws.specs.declared.outcome.Outcome.TheVariants.{Delivered}
use Rattle.world_laws.specs.Openings.{Start, opened_world}
use Rattle.world_laws.specs.Outcomes.{outcome_of}
use Rattle.world_laws.specs.Promises.{IsPlain, NumbersFit}
use Rattle.world_laws.specs.Worlds.{AreLawful, Turn, world_run}

-- behind its header (RFC 9293, section 3.1)
abbrev pub payload_in : List ℕ → List ℕ
payload_in octets = drop (header_len octets) octets

-- The segment is of this side, and its payload is a part of the side's file, with the octet at this place.
pub record CarriesPlace (s : Side) (file : List ℕ) (place : ℕ) (sent : Sent) : Type 0 where
  pub from : sent.from ≡ s
  pub first : ℕ
  pub below : first ≤ place
  pub above : place < first + length (payload_in sent.octets)
  pub part : payload_in sent.octets ≡ take (length (payload_in sent.octets)) (drop first file)

-- a round ends after these turns
abbrev pub ended : List Turn → List Turn
ended turns = turns ++ Turn.Round ∷ []

-- Where a run is delivered as a round ends each octet of both files was in a segment that was handed to a link.
abbrev pub DeliveredFilesWereSent : Type 0
DeliveredFilesWereSent =
    (start : Start) (turns : List Turn) → IsPlain start → NumbersFit start → AreLawful octets (ended turns) (opened_world start)
    → outcome_of (world_run octets (ended turns) (opened_world start)).crew ≡ Delivered
    → (s : Side) (place : ℕ) → place < length (pick s start.file_a start.file_b)
    → Has (CarriesPlace s (pick s start.file_a start.file_b) place) (trace_of (ended turns) (opened_world start))
