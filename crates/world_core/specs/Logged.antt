-- What a log tells of the turns of a run, and of its outcome.
use Rattle.std.specs.Prelude.{List, map}
use Rattle.run_log.specs.declared.outcome.Outcome as log_outcome
use Rattle.run_log.specs.declared.outcome.Outcome.TheVariants as told
use Rattle.run_log.specs.declared.turn.Turn as log_turn
use Rattle.run_log.specs.declared.turn.Turn.TheVariants as logged
use Rattle.world_laws.specs.declared.outcome.Outcome.{Outcome}
use Rattle.world_laws.specs.declared.outcome.Outcome.TheVariants.{Going, Delivered, Aborted, NoPath}
use Rattle.world_laws.specs.Worlds.{Turn}

abbrev pub turn_of : log_turn.Turn → Turn
turn_of (logged.Step actor) = Turn.Step actor
turn_of logged.Round = Turn.Round

abbrev pub all_turns : List log_turn.Turn → List Turn
all_turns turns = map turn_of turns

-- a run that still goes ends with its rounds
abbrev pub told_outcome : Outcome → log_outcome.Outcome
told_outcome Going = told.Rounds
told_outcome Delivered = told.Delivered
told_outcome (Aborted reader) = told.Aborted
told_outcome NoPath = told.NoPath
