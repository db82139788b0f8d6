use Rattle.std.proofs.Common.{◌≡◌, ◌≤◌, ◌-◌, false}
use Rattle.path_core.specs.Octets.{octets}
use Rattle.world_core.specs.Cuts.{TurnsCut}
use Rattle.world_core.specs.Rounds.{TurnsFrom}
use Rattle.world_core.proofs.whole_turns.turns.Given as goal

-- what the turns that are left come to, all turns do
abbrev pub invariant-loop-actor : goal.invariant-loop-actor
invariant-loop-actor l =
    (l.world.failed ≡ false) × (l.actor ≤ l.actors)
    × ((v : _) → TurnsFrom octets (l.actors - l.actor) l.actor l.world.state v → TurnsFrom octets l.actors 0 l.initial.world.state v)
    × ((v : _) → TurnsCut octets (l.actors - l.actor) l.actor l.world.state v → TurnsCut octets l.actors 0 l.initial.world.state v)
