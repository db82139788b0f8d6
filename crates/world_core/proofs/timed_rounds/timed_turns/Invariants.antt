use Rattle.std.proofs.Common.{◌≡◌, false}
use Rattle.path_core.specs.Octets.{octets}
use Rattle.world_core.specs.TimedRounds.{TimedCut, TimedTurnsTo}
use Rattle.world_core.proofs.TimedRounds.{stamps_left}
use Rattle.world_core.proofs.timed_rounds.timed_turns.Given as goal

-- what the rest of the round comes to, the whole round does
abbrev pub invariant-loop-step : goal.invariant-loop-step
invariant-loop-step l =
    (l.world.failed ≡ false) × ((v : _) → TimedTurnsTo octets l.world.state v → TimedTurnsTo octets l.initial.world.state v)
    × ((v : _) → TimedCut octets l.world.state v → TimedCut octets l.initial.world.state v)

abbrev pub decreases-loop-step : goal.decreases-loop-step
decreases-loop-step l = stamps_left l.world.state.crew
