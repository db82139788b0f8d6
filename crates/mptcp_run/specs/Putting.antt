-- What a run puts: what the readers read, and its log, of the rounds that have ended.
use Rattle.std.specs.Prelude.{◌≡◌, ℕ, suc, ◌+◌, ◌≤◌, ◌⊎◌, List, [], ◌∷◌, ◌++◌, flat_map, map, length, codes, Option, Some, None}
use Rattle.sides.specs.declared.side.Side.{Side}
use Rattle.sides.specs.declared.side.Side.TheVariants.{A, B}
use Rattle.outside_kit.specs.declared.port.Port.{Port}
use Rattle.outside_kit.specs.declared.port.Port.TheVariants.{ReadByA, ReadByB, Log}
use Rattle.outside_kit.specs.Outside.{HoldsAfter}
use Rattle.link_script.specs.declared.script.Script.{Script}
use Rattle.actor_desk.specs.declared.ask.Note.{Note}
use Rattle.run_log.specs.declared.outcome.Outcome as log_outcome
use Rattle.std.specs.Fmt.{decimal}
use Rattle.std.specs.List.{sum}
use Rattle.run_log.specs.Lines.{ended, opening_lines, outcome_text, outcome_word}
use Rattle.path_core.specs.Octets.{octets}
use Rattle.path_core.specs.Start.{drawn_of}
use Rattle.world_laws.specs.declared.outcome.Outcome.{Outcome}
use Rattle.world_laws.specs.declared.outcome.Outcome.TheVariants as outcome
use Rattle.world_laws.specs.Fine.{lists_of}
use Rattle.world_laws.specs.Outcomes.{outcome_of}
use Rattle.world_laws.specs.Worlds.{Turn, world_run, AreLawful, IsLawfulTurn}
use Rattle.world_core.specs.Kept.{HasFewNotes}
use Rattle.world_core.specs.RoundEnds.{round_ends, steps_by_round, read_to_end}
use Rattle.mptcp_run.specs.declared.report.Report.{Report}
use Rattle.mptcp_run.specs.declared.report.Report.TheVariants as report
use Rattle.run_outside.specs.declared.status.Status.{Status}
use Rattle.run_outside.specs.declared.status.Status.TheVariants.{Delivered, Rounds, NoPath, Aborted}
use Rattle.run_outside.specs.Reading.{width_of}
use Rattle.mptcp_run.specs.Task.{Connection, Task, Course, first_world, AreTurnsOf}
use Rattle.mptcp_run.specs.Task as way
use Rattle.mptcp_run.specs.Schedules.{AreRoundsBy}
use Rattle.mptcp_run.specs.WovenRounds.{AreWovenRounds}
use Rattle.run_outside.specs.LogText.{log_text, RoundsFit}
use Rattle.world_core.specs.Logged.{told_outcome}

-- ---- the log

-- the lines with which a log opens
abbrev pub log_opening : Script → List ℕ
log_opening script = flat_map ended (opening_lines (width_of script) (drawn_of script 0).key_a (drawn_of script 0).key_b)

-- for a task that keeps one
abbrev pub opening_of : Report → Script → Option (List ℕ)
opening_of report.Log script = Some (log_opening script)
opening_of (report.Summary number) script = None

-- ---- how a run ends

-- by what the connection shows after all turns; where it still goes on, no more rounds were to be made
abbrev pub status_of : Outcome → Status
status_of outcome.Going = Rounds
status_of outcome.Delivered = Delivered
status_of (outcome.Aborted reader) = Aborted reader
status_of outcome.NoPath = NoPath

-- how many steps the actors have made
abbrev pub steps_made : Connection → ℕ
steps_made w = sum (map length (lists_of w.crew))

-- what came of the made input of a number
abbrev pub summary_text : ℕ → ℕ → ℕ → log_outcome.Outcome → List ℕ
summary_text number rounds steps outcome =
    codes "bench " ++ (decimal number ++ (codes " rounds " ++ (decimal rounds ++ (codes " steps " ++ (decimal steps ++ (codes " outcome " ++ outcome_word outcome))))))

-- the last line, after so many rounds
abbrev pub last_line_of : Report → ℕ → Connection → List ℕ
last_line_of report.Log rounds w = ended (outcome_text (told_outcome (outcome_of w.crew)))
last_line_of (report.Summary number) rounds w = ended (summary_text number rounds (steps_made w) (told_outcome (outcome_of w.crew)))

-- ---- the turns of a task

-- the connection at each round's end
abbrev pub ends_of : Task → List Turn → List Connection
ends_of task turns = round_ends turns (first_world task)

-- all that the reader of a side has read at the last round's end
abbrev pub read_so_far : Side → Task → List Turn → List ℕ
read_so_far s task turns = read_to_end s turns (first_world task)

-- the steps of each round that ended
abbrev pub steps_so_far : Task → List Turn → List (List Note)
steps_so_far task turns = steps_by_round (first_world task) (ends_of task turns)

-- the lines with which the log opens, where one is kept
abbrev pub opening_in : Task → Option (List ℕ)
opening_in task = opening_of task.report task.script

-- what the rounds that ended put to the log
abbrev pub log_so_far : Task → List Turn → List ℕ
log_so_far task turns = log_text (opening_in task) 0 (steps_so_far task turns)

-- the connection after these turns
abbrev pub world_after : Task → List Turn → Connection
world_after task turns = world_run octets turns (first_world task)

-- the last line, after the rounds of these turns
abbrev pub last_line : Task → List Turn → List ℕ
last_line task turns = last_line_of task.report (length (ends_of task turns)) (world_after task turns)

-- ---- what the ports hold

-- of the rounds that ended
pub record HoldsRounds (task : Task) (turns : List Turn) (old new : Port → Option (List ℕ)) : Type 0 where
  pub read_by_b : HoldsAfter (old ReadByB) (new ReadByB) (λ _. read_so_far B task turns)
  pub read_by_a : HoldsAfter (old ReadByA) (new ReadByA) (λ _. read_so_far A task turns)
  pub log : HoldsAfter (old Log) (new Log) (λ held. held ++ log_so_far task turns)
  pub fits : RoundsFit (opening_in task) 0 (steps_so_far task turns)

-- of a run that came to its end
pub record HoldsRun (task : Task) (turns : List Turn) (old new : Port → Option (List ℕ)) : Type 0 where
  pub read_by_b : HoldsAfter (old ReadByB) (new ReadByB) (λ _. read_so_far B task turns)
  pub read_by_a : HoldsAfter (old ReadByA) (new ReadByA) (λ _. read_so_far A task turns)
  pub log : HoldsAfter (old Log) (new Log) (λ held. held ++ (log_so_far task turns ++ last_line task turns))
  pub fits : RoundsFit (opening_in task) 0 (steps_so_far task turns)

-- all turns of the task were made, the status is the one that the connection shows then, the ports hold the run, and each actor made fewer than
-- 2^57 steps
pub record IsWhole (task : Task) (status : Status) (old new : Port → Option (List ℕ)) : Type 0 where
  pub turns : List Turn
  pub are : AreTurnsOf task.course turns (first_world task)
  pub status_is : status ≡ status_of (outcome_of (world_after task turns).crew)
  pub ports : HoldsRun task turns old new
  pub few : HasFewNotes (world_after task turns)

-- ---- early ends

-- a turn of the log can't be made, and stands in this line, where so many lines open the log; the ports hold the rounds before
pub record IsStopped (task : Task) (opening line : ℕ) (old new : Port → Option (List ℕ)) : Type 0 where
  pub before : List Turn
  pub turn : Turn
  pub behind : List Turn
  pub order : task.course ≡ way.told (before ++ turn ∷ behind)
  pub lawful : AreLawful octets before (first_world task)
  pub refused : IsLawfulTurn turn (world_after task before) → ⊥
  pub line_is : line ≡ opening + length before + 1
  pub ports : HoldsRounds task before old new

-- of at most so many rounds, whose turns are such ones, these are those of the first ones, and of the
-- next one, or none
abbrev pub AreFirst : (ℕ → List Turn → Type 0) → ℕ → List Turn → List Turn → Type 0
AreFirst Are most turns more =
    (n : ℕ)
    × ((n ≤ most)
    × (Are n turns × ((more ≡ []) ⊎ ((suc n ≤ most) × Are (suc n) (turns ++ more)))))

-- the turns are those of the first rounds of a task, and `more` those of the next one, or none
abbrev pub AreFirstOf : Course → List Turn → List Turn → Connection → Type 0
AreFirstOf (way.rounds schedule most) turns more w = AreFirst (λ n ts. AreRoundsBy schedule n ts w) most turns more
AreFirstOf (way.threads most) turns more w = AreFirst (λ n ts. AreWovenRounds n ts w) most turns more
AreFirstOf (way.told order) turns more w = (behind : List Turn) × ((order ≡ turns ++ (more ++ behind)) × AreLawful octets (turns ++ more) w)
