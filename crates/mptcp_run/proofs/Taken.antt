-- A run that took no turn.
use Rattle.std.proofs.Common.{ℕ}
use Rattle.world_core.specs.Logged.{all_turns}
use Rattle.outside_kit.specs.declared.port.Port.{Port}
use Rattle.outside_kit.specs.Outside.{Told}
use Rattle.run_words.specs.Lines.{Line}
use Rattle.run_outside.specs.declared.input.Input.{Input}
use Rattle.run_outside.specs.declared.status.Status.TheVariants.{Memory}
use Rattle.mptcp_run.specs.declared.turns.Turns.{Turns}
use Rattle.mptcp_run.specs.declared.turns.Turns.TheVariants.{Scheduled, Logged}
use Rattle.mptcp_run.specs.Taken.{task_taken, EndsEarly, TurnsFault}
use Rattle.mptcp_run.specs.Task.{first_world}
use Rattle.mptcp_run.proofs.Courses.{no_round, no_turn}
use Rattle.mptcp_run.proofs.Performing.{nothing_made}

-- for want of memory
pub nothing_taken : (turns : Turns) (input : Input) (line : Line) (told : Told) → EndsEarly turns line (task_taken input turns) told told Memory
nothing_taken (Scheduled schedule most report) input line told =
    let task = task_taken input (Scheduled schedule most report) in nothing_made line task told (no_round schedule most (first_world task))
nothing_taken (Logged replay) input line told =
    let task = task_taken input (Logged replay) in nothing_made line task told (no_turn (all_turns replay.now.turns.items) (first_world task))

pub memory_alone : (turns : Turns) (before faults : Port → ℕ) → TurnsFault turns before faults Memory
memory_alone (Scheduled schedule most report) before faults = tt
memory_alone (Logged replay) before faults = tt
