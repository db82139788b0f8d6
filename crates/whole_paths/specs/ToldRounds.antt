-- In a round an end comes to know all that its side's reassembly book took as the round began (RFC 9293, section 3.8.6).
use Rattle.std.specs.Prelude.{◌+◌, ◌≤◌, List}
use Rattle.sides.specs.declared.side.Side.{Side}
use Rattle.sides.specs.Side.{peer}
use Rattle.path_core.specs.State.{PathState, end_at}
use Rattle.path_core.specs.Values.{Carried, values}
use Rattle.world_laws.specs.Openings.{PathPlan, Start}
use Rattle.world_laws.specs.RoundDone.{reached}
use Rattle.world_laws.specs.Worlds.{Turn}
use Rattle.whole_paths.specs.Finish.{IsPathAt}
use Rattle.whole_paths.specs.OnePathScripts.{BeginsWithOnePath}
use Rattle.whole_paths.specs.SegmentRounds.{IsRound, read_after}
use Rattle.whole_paths.specs.ToldEdges.{offer}

-- the peer's end, of what it takes of this side's stream
abbrev pub EachRoundAsks : Type 0
EachRoundAsks = (start : Start) (plan : PathPlan) (s : Side) (v w : List Turn) → BeginsWithOnePath start plan → IsRound start v w
    → (p : PathState Carried) → IsPathAt 0 (reached values start w) p → read_after start s v + start.buffer ≤ offer (end_at (peer s) p)
