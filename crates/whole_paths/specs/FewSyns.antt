-- How many segments A's end sends while it opens: its SYN, and that again for each expiry, of which the sixth in a row would end it (RFC 9293,
-- section 3.8.3; RFC 6298, section 5).
use Rattle.std.specs.Prelude.{◌≤◌, List}
use Rattle.sides.specs.declared.side.Side.TheVariants.{A}
use Rattle.link_model.specs.Steps.{segments_sent}
use Rattle.path_core.specs.State.{PathState}
use Rattle.path_core.specs.Values.{Carried, values}
use Rattle.world_laws.specs.Openings.{PathPlan, Start}
use Rattle.world_laws.specs.RoundDone.{reached}
use Rattle.world_laws.specs.Worlds.{Turn}
use Rattle.whole_paths.specs.AsFar.{stage}
use Rattle.whole_paths.specs.Finish.{IsPathAt}
use Rattle.whole_paths.specs.OnePathScripts.{BeginsWithOnePath}
use Rattle.whole_paths.specs.OpeningWaits.{IsAlive}

-- six at most
abbrev pub SynsAreFew : Type 0
SynsAreFew = (start : Start) (plan : PathPlan) (turns : List Turn) → BeginsWithOnePath start plan → (p : PathState Carried)
    → IsPathAt 0 (reached values start turns) p → IsAlive p → stage p.a.tcp.state ≤ 1 → segments_sent A p.link ≤ 6
