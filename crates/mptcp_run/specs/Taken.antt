-- A run by the turns that it takes: its task, and how it ends early.
use Rattle.std.specs.Prelude.{ℕ, ◌≤◌, []}
use Rattle.world_core.specs.Logged.{all_turns}
use Rattle.outside_kit.specs.declared.port.Port.{Port}
use Rattle.outside_kit.specs.Outside.{Told}
use Rattle.run_words.specs.Lines.{Line}
use Rattle.run_outside.specs.declared.input.Input.{Input}
use Rattle.run_outside.specs.declared.status.Status.{Status}
use Rattle.run_outside.specs.Ports.{IsPortsFault}
use Rattle.mptcp_run.specs.declared.report.Report.{Report}
use Rattle.mptcp_run.specs.declared.report.Report.TheVariants.{Log}
use Rattle.mptcp_run.specs.declared.turns.Turns.{Turns}
use Rattle.mptcp_run.specs.declared.turns.Turns.TheVariants.{Scheduled, Logged}
use Rattle.mptcp_run.specs.Ends.{IsCut, ReplayEnds}
use Rattle.mptcp_run.specs.Replaying.{IsReplayFault}
use Rattle.mptcp_run.specs.Task.{Task, Course, task_with}
use Rattle.mptcp_run.specs.Task as way

abbrev pub course_in : Turns → Course
course_in (Scheduled schedule most report) = way.rounds schedule most
course_in (Logged replay) = way.told (all_turns replay.now.turns.items)

abbrev pub report_in : Turns → Report
report_in (Scheduled schedule most report) = report
report_in (Logged replay) = Log

-- with this input
abbrev pub task_taken : Input → Turns → Task
task_taken input turns = task_with input (course_in turns) (report_in turns)

-- at most three lines open a log
abbrev pub HasFewLines : Turns → Type 0
HasFewLines (Scheduled schedule most report) = Unit {0}
HasFewLines (Logged replay) = replay.now.lines ≤ 3

-- the run was cut off, or a turn of its log can't be made
abbrev pub EndsEarly : Turns → Line → Task → Told → Told → Status → Type 0
EndsEarly (Scheduled schedule most report) line task old new status = IsCut [] line task old new status
EndsEarly (Logged replay) line task old new status = ReplayEnds [] line task old new replay.now.lines status

-- what is answered then has its cause
abbrev pub TurnsFault : Turns → (Port → ℕ) → (Port → ℕ) → Status → Type 0
TurnsFault (Scheduled schedule most report) faults_before faults status = IsPortsFault faults_before faults status
TurnsFault (Logged replay) faults_before faults status = IsReplayFault faults_before faults status
