-- The octets of a stream that the steps of a run grant to paths.
use Rattle.std.specs.Prelude.{◌≡◌, ℕ, ◌<◌, ◌≤◌, List, length}
use Rattle.sides.specs.declared.side.Side.{Side}
use Rattle.actor_desk.specs.Words.{pick}
use Rattle.path_core.specs.Octets.{octets}
use Rattle.world_laws.specs.declared.outcome.Outcome.TheVariants.{Delivered}
use Rattle.world_laws.specs.Actors.{ActorCrew}
use Rattle.world_laws.specs.Granted.{times_granted}
use Rattle.world_laws.specs.Openings.{Start, opened_world}
use Rattle.world_laws.specs.Outcomes.{outcome_of}
use Rattle.world_laws.specs.Promises.{IsPlain, NumbersFit}
use Rattle.world_laws.specs.Worlds.{Turn, world_run}

-- a step of these actors grants the octet at this place of a side's stream to a path
pub record WasGranted {C : Type 0} (s : Side) (place : ℕ) (crew : List (ActorCrew C)) : Type 0 where
  pub path : ℕ
  pub granted : 1 ≤ times_granted s path place crew

-- Once a run is delivered each octet of both files was granted to a path.
abbrev pub DeliveredFilesWereGranted : Type 0
DeliveredFilesWereGranted =
    (start : Start) (turns : List Turn) → IsPlain start → NumbersFit start
    → outcome_of (world_run octets turns (opened_world start)).crew ≡ Delivered
    → (s : Side) (place : ℕ) → place < length (pick s start.file_a start.file_b)
    → WasGranted s place (world_run octets turns (opened_world start)).crew
