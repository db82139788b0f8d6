-- What the log of a run tells: turns that drive the same connection to the same outputs.
use Rattle.std.specs.Prelude.{◌≡◌, ℕ, ◌≤◌, List, [], ◌∷◌, ◌++◌, Option, Some, length}
use Rattle.outside_kit.specs.declared.port.Port.{Port}
use Rattle.outside_kit.specs.declared.port.Port.TheVariants.{ReadByA, ReadByB, Log}
use Rattle.outside_kit.specs.Outside.{HoldsAfter}
use Rattle.world_laws.specs.Worlds.{Turn}
use Rattle.mptcp_run.specs.declared.report.Report.TheVariants as report
use Rattle.run_outside.specs.declared.status.Status.{Status}
use Rattle.run_outside.specs.Ports.{HoldsMore}
use Rattle.mptcp_run.specs.Putting.{world_after, IsWhole}
use Rattle.mptcp_run.specs.Task.{Task, Course, rounds, threads, told, turns_in}

-- one round at least, and the last turn is the end of one
abbrev pub HasRounds : Course → Type 0
HasRounds (rounds schedule most) = 1 ≤ most
HasRounds (threads most) = 1 ≤ most
HasRounds (told order) = (prefix : List Turn) × (order ≡ prefix ++ Turn.Round ∷ [])

-- a task of the same connection whose turns are told, and which keeps a log
abbrev pub replayed : Task → List Turn → Task
replayed task order = record { script = task.script; file_a = task.file_a; file_b = task.file_b; course = told order; report = report.Log }

-- A text is read as a log of turns, those of its steps in their order. From the opening on they are lawful, drive the connection to
-- where these turns drove it, and as a run of their own end with this status and leave just these ports, the log among them.
pub record TellsTheRun (task : Task) (turns : List Turn) (status : Status) (old new : Port → Option (List ℕ)) (text : List ℕ) : Type 0 where
  pub order : List Turn
  pub read : turns_in task.script text ≡ Some order
  pub whole : IsWhole (replayed task order) status old new
  pub same : world_after task order ≡ world_after task turns

-- what the log grew by tells the run of these turns
abbrev pub LogTellsTheRun : Task → List Turn → Status → (Port → Option (List ℕ)) → (Port → Option (List ℕ)) → Type 0
LogTellsTheRun task turns status old new = HoldsMore (old Log) (new Log) [] (TellsTheRun task turns status old new)

-- two outsides after two runs: each reader has the same octets, and the logs grew by the same text
pub record HoldTheSame (old new before after : Port → Option (List ℕ)) : Type 0 where
  pub text_b : List ℕ
  pub read_by_b : HoldsAfter (old ReadByB) (new ReadByB) (λ _. text_b) × HoldsAfter (before ReadByB) (after ReadByB) (λ _. text_b)
  pub text_a : List ℕ
  pub read_by_a : HoldsAfter (old ReadByA) (new ReadByA) (λ _. text_a) × HoldsAfter (before ReadByA) (after ReadByA) (λ _. text_a)
  pub text : List ℕ
  pub log : HoldsAfter (old Log) (new Log) (λ held. held ++ text) × HoldsAfter (before Log) (after Log) (λ held. held ++ text)

-- ---- laws

-- each run of some rounds and at most sixteen paths that keeps a log and came to its own end is told by it
abbrev pub WholeRunsAreTold : Type 0
WholeRunsAreTold = (task : Task) (status : Status) (old new : Port → Option (List ℕ)) → task.report ≡ report.Log → length task.script.paths ≤ 16 → HasRounds task.course
    → (whole : IsWhole task status old new)
    → LogTellsTheRun task whole.turns status old new

-- one list of turns alone is all turns of the course: threads may come to several
abbrev pub IsSettled : Course → Type 0
IsSettled (rounds schedule most) = Unit {0}
IsSettled (threads most) = ⊥
IsSettled (told order) = Unit {0}

-- two runs of one task without threads that came to their own ends came to the same
abbrev pub WholeRunsAgree : Type 0
WholeRunsAgree = (task : Task) (status other : Status) (old new before after : Port → Option (List ℕ)) → IsSettled task.course → IsWhole task status old new
    → IsWhole task other before after → (status ≡ other) × HoldTheSame old new before after
