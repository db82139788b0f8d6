-- What is known of each moment of a connection as long as no end of path 0 is dead; with four harmed segments at most none dies.
use Rattle.std.specs.Prelude.{◌-◌, ◌^◌, ◌≡◌, ◌<◌, ◌≤◌, true, false, Some, List, length}
use Rattle.std.specs.List.{list_all, slice_get}
use Rattle.sides.specs.declared.side.Side.{Side}
use Rattle.subflow_tcp.specs.States.{is_dead}
use Rattle.path_core.specs.State.{PathState, end_at}
use Rattle.path_core.specs.Values.{Carried, values}
use Rattle.world_laws.specs.Openings.{PathPlan, Start, opened_world}
use Rattle.world_laws.specs.RoundDone.{reached}
use Rattle.world_laws.specs.Worlds.{WorldState, Turn}
use Rattle.whole_paths.specs.Finish.{AnEndDied, IsPathAt, harmed}
use Rattle.whole_paths.specs.KeptAddresses.{spares_first}
use Rattle.whole_paths.specs.Mild.{IsMildStart}
use Rattle.whole_paths.specs.WindowRoom.{IsRoomy}

-- the moment is one after these turns, fewer than 2^64 - 1, and both ends of path 0 live
pub record RunsAlive (start : Start) (w : WorldState Carried) : Type 0 where
  pub turns : List Turn
  pub is : w ≡ reached values start turns
  pub few : length turns < 2 ^ 64 - 1
  pub path : PathState Carried
  pub here : IsPathAt 0 w path
  pub living : (s : Side) → is_dead (end_at s path).tcp.state ≡ false

-- a mild connection that has a path 0, of whose script no line lets path 0 die or takes its address back
pub record HarmsNoEnd (start : Start) : Type 0 where
  pub mild : IsMildStart start
  pub plan : PathPlan
  pub there : slice_get start.paths 0 ≡ Some plan
  pub harmless : list_all spares_first start.lines ≡ true

-- With four harmed segments of path 0 at most, in fewer than 2^64 - 1 turns, no end of it dies, whatever becomes of other paths: where its windows have
-- room for what was sent.
abbrev pub FewLossesEndNoFirst : Type 0
FewLossesEndNoFirst = (start : Start) (turns : List Turn) → HarmsNoEnd start → 2 ≤ start.buffer → IsRoomy start → length turns < 2 ^ 64 - 1
    → harmed values 0 turns (opened_world start) ≤ 4 → AnEndDied 0 (reached values start turns) → ⊥
