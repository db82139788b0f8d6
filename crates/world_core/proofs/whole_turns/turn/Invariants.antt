use Rattle.std.proofs.Common.{◌≡◌, ◌-◌, ◌^◌, false}
use Rattle.path_core.specs.Octets.{octets}
use Rattle.world_laws.specs.Serial.{TurnTo}
use Rattle.world_core.specs.Cuts.{TurnCut}
use Rattle.world_core.specs.Steps.{stamp_at}
use Rattle.world_core.proofs.whole_turns.turn.Given as goal

-- what the rest of the turn comes to, the whole turn does
abbrev pub invariant-loop : goal.invariant-loop
invariant-loop l =
    (l.world.failed ≡ false) × ((v : _) → TurnTo octets l.actor l.world.state v → TurnTo octets l.actor l.initial.world.state v)
    × ((v : _) → TurnCut octets l.actor l.world.state v → TurnCut octets l.actor l.initial.world.state v)

abbrev pub decreases-loop : goal.decreases-loop
decreases-loop l = 2 ^ 62 - stamp_at l.actor l.world.state
