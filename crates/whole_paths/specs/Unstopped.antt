-- Connections that nobody stops: no side closes at once, so no book is aborted (RFC 8684, section 3.5).
use Rattle.std.specs.Prelude.{◌≡◌, false, None, List}
use Rattle.sides.specs.declared.side.Side.{Side}
use Rattle.path_core.specs.Values.{values}
use Rattle.world_laws.specs.Openings.{Start, opened_world}
use Rattle.world_laws.specs.Outcomes.{notes_of, tells_stop, was_told}
use Rattle.world_laws.specs.Promises.{arrived_at, written_by}
use Rattle.world_laws.specs.Worlds.{WorldState, Turn, world_run}
use Rattle.whole_paths.specs.Mild.{IsMildStart}

-- No send book is aborted, or given to one path alone; no reassembly book is; and no reader was told of an abort, by either side.
pub record NothingIsStopped {C : Type 0} (w : WorldState C) : Type 0 where
  pub send : (s : Side) → (written_by s w).aborted ≡ false
  pub owner : (s : Side) → (written_by s w).owner ≡ None
  pub arrived : (s : Side) → (arrived_at s w).aborted ≡ None
  pub told : (s : Side) → was_told tells_stop (notes_of s w.crew) ≡ false

-- nothing is stopped at any moment of a mild connection
abbrev pub MildPathsAreNeverStopped : Type 0
MildPathsAreNeverStopped = (start : Start) (turns : List Turn) → IsMildStart start → NothingIsStopped (world_run values turns (opened_world start))
