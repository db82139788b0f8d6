-- No more bytes are acknowledged to an end by Data ACKs than positions of its subflow, but for that of the SYN (RFC 8684, section 3.3.2).
use Rattle.std.specs.Prelude.{◌-◌, ◌≡◌, ◌≤◌, ◌⊎◌, false, List}
use Rattle.sides.specs.declared.side.Side.{Side}
use Rattle.subflow_tcp.specs.States.{is_dead}
use Rattle.path_core.specs.State.{PathState, end_at}
use Rattle.path_core.specs.Values.{Carried, values}
use Rattle.world_laws.specs.Openings.{PathPlan, Start}
use Rattle.world_laws.specs.RoundDone.{reached}
use Rattle.world_laws.specs.Worlds.{Turn}
use Rattle.whole_paths.specs.Delivery.{IsAllThere}
use Rattle.whole_paths.specs.Finish.{IsPathAt}
use Rattle.whole_paths.specs.OnePathScripts.{BeginsWithOnePath}

-- So it is at every moment at which neither end of the only path is dead, or all of the side's stream is with the peer: then its DATA_FIN, which has a
-- place, but no position, may be acknowledged besides.
abbrev pub HeardLiesBelow : Type 0
HeardLiesBelow = (start : Start) (plan : PathPlan) (turns : List Turn) → BeginsWithOnePath start plan
    → (p : PathState Carried) → IsPathAt 0 (reached values start turns) p → ((t : Side) → is_dead (end_at t p).tcp.state ≡ false) → (s : Side)
    → IsAllThere s (reached values start turns) ⊎ ((end_at s p).sending.heard ≤ (end_at s p).tcp.send.una - 1)
