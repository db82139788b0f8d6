use Rattle.std.proofs.Common.{◌≤◌, length}
use Rattle.world_core.proofs.TimedRounds.{IsFirstIf}
use Rattle.world_core.proofs.timed_rounds.earliest.Given as goal

-- of the actors so far
abbrev pub invariant-loop-actor : goal.invariant-loop-actor
invariant-loop-actor l = record { few : l.actor ≤ length l.world.state.crew; first : IsFirstIf l.actor l.step l.world.state.crew }
