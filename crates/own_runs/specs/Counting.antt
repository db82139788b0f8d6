-- How many octets a table counts as sent for the first time.
use Rattle.std.specs.Prelude.{◌≡◌, List, length}
use Rattle.std.specs.List.Sorted.{IsPermutation}
use Rattle.sides.specs.declared.side.Side.{Side}
use Rattle.actor_desk.specs.Words.{pick}
use Rattle.link_trace.specs.declared.carried.Base.{Base}
use Rattle.link_trace.specs.declared.carried.Carried.{Carried}
use Rattle.link_trace.specs.declared.rows.Rates.{Rates}
use Rattle.link_trace.specs.declared.sent.Sent.{Sent}
use Rattle.link_trace.specs.Carrying.{all_carried, base_of}
use Rattle.link_trace.specs.Rows.{capped, first_octets_from, rows_of}
use Rattle.path_core.specs.Octets.{octets}
use Rattle.run_trace.specs.Initials.{initials_of}
use Rattle.run_trace.specs.Trace.{trace_of}
use Rattle.world_laws.specs.declared.outcome.Outcome.TheVariants.{Delivered}
use Rattle.world_laws.specs.Openings.{Start, opened_world}
use Rattle.world_laws.specs.Outcomes.{outcome_of}
use Rattle.world_laws.specs.Promises.{IsPlain, NumbersFit}
use Rattle.world_laws.specs.Worlds.{AreLawful, Turn, world_run}
use Rattle.own_runs.specs.Sending.{ended}

-- the numbers from which those of a connection count
abbrev pub base_from : Start → Base
base_from start = base_of start.key_a start.key_b start.checksums

-- what these segments of a connection carry
abbrev pub carried_in : Start → List Sent → List Carried
carried_in start told = all_carried (base_from start) (initials_of start.paths) told

-- Where a run is delivered as a round ends, the table counts as many octets of each direction that were sent for the first time as
-- the side's file has, in whatever order its segments are told, and whatever its rows say of round trips and windows.
abbrev pub DeliveredFilesWereCounted : Type 0
DeliveredFilesWereCounted =
    (start : Start) (turns : List Turn) → IsPlain start → NumbersFit start → AreLawful octets (ended turns) (opened_world start)
    → outcome_of (world_run octets (ended turns) (opened_world start)).crew ≡ Delivered
    → (told : List Sent) → IsPermutation (trace_of (ended turns) (opened_world start)) told
    → (s : Side) (rates : List Rates) → length rates ≡ length start.paths
    → capped (first_octets_from s (rows_of rates (carried_in start told))) ≡ length (pick s start.file_a start.file_b)
