-- What a run is to do: a connection with its files, and which turns its actors take.
use Rattle.std.specs.Prelude.{◌≡◌, ℕ, List, map, Option, Some, None, option_map, option_and_then}
use Rattle.std.specs.Result.{result_ok}
use Rattle.link_script.specs.declared.script.Script.{Script}
use Rattle.run_words.specs.Lines.{Line, Work, run, serial, timed, replay, bench, ◌>>=◌}
use Rattle.path_core.specs.Octets.{octets}
use Rattle.run_outside.specs.declared.input.Input.{Input}
use Rattle.world_laws.specs.Openings.{start_of, opened_world}
use Rattle.world_laws.specs.Worlds.{WorldState, Turn, AreLawful}
use Rattle.run_outside.specs.Reading.{script_of, log_reading}
use Rattle.world_core.specs.Logged.{turn_of}
use Rattle.mptcp_run.specs.Schedules.{AreRoundsBy}
use Rattle.mptcp_run.specs.WovenRounds.{AreWovenRounds}
use Rattle.mptcp_run.specs.declared.report.Report.{Report}
use Rattle.mptcp_run.specs.declared.report.Report.TheVariants.{Log}
use Rattle.mptcp_run.specs.declared.schedule.Schedule.{Schedule}
use Rattle.mptcp_run.specs.declared.schedule.Schedule.TheVariants.{Serial, Timed}

-- a connection whose links carry octets
abbrev pub Connection : Type 0
Connection = WorldState (List ℕ)

-- the turns that the actors take
pub data Course : Type 0 where
  -- by a schedule, at most so many rounds
  rounds : Schedule → ℕ → Course
  -- at most so many rounds, each with its steps by stamp, then actor, as threads come to make them
  threads : ℕ → Course
  -- told ones, in order
  told : List Turn → Course

pub record Task : Type 0 where
  pub script : Script
  -- what each side writes
  pub file_a : List ℕ
  pub file_b : List ℕ
  pub course : Course
  -- what is put beside what the readers read: a log, or one line
  pub report : Report

-- the connection before its first step
abbrev pub first_world : Task → Connection
first_world task = opened_world (start_of task.script task.file_a task.file_b)

-- all turns of a course
abbrev pub AreTurnsOf : Course → List Turn → Connection → Type 0
AreTurnsOf (rounds schedule most) turns w = AreRoundsBy schedule most turns w
AreTurnsOf (threads most) turns w = AreWovenRounds most turns w
AreTurnsOf (told order) turns w = (turns ≡ order) × AreLawful octets turns w

-- with these inputs
abbrev pub task_with : Input → Course → Report → Task
task_with input course report = record { script = input.script; file_a = input.file_a; file_b = input.file_b; course = course; report = report }

-- with what is read of it, and a log
abbrev pub task_from : Input → Course → Task
task_from input course = task_with input course Log

-- ---- from the words and contents

-- the turns that a log tells of a run of this script
abbrev pub turns_in : Script → List ℕ → Option (List Turn)
turns_in script log = option_map (map turn_of) (result_ok (log_reading script log))

-- the course of a mode: in `replay` the turns of the log, where it is told and valid, and none in `bench`
abbrev pub course_of : (List ℕ → Option (List ℕ)) → Script → Work → Option Course
course_of content script (serial most) = Some (rounds Serial most)
course_of content script (timed most) = Some (rounds Timed most)
course_of content script (replay log) = option_map told (option_and_then (turns_in script) (content log))
course_of content script (run most) = Some (threads most)
course_of content script (bench most number) = None

-- the task of a command line, where the contents are told and valid
abbrev pub task_of : (List ℕ → Option (List ℕ)) → Line → Option Task
task_of content line = do
  script ← script_of content line
  file_a ← content line.names.file_a
  file_b ← content line.names.file_b
  course ← course_of content script line.work
  Some (record { script = script; file_a = file_a; file_b = file_b; course = course; report = Log })
