-- The log of a run that came to its own end tells that run.
use Rattle.std.proofs.Common.{◌≡◌, refl, sym, ◌∙◌, ap, subst, ℕ, zero, suc, ◌≤◌, ◌<◌, Bool, true, false, if◌then◌else◌, Option, Some, List, [], ◌∷◌, ◌++◌, length, arith}
use Rattle.outside_kit.specs.Outside.{HoldsAfter}
use Rattle.outside_kit.specs.declared.port.Port.{Port}
use Rattle.outside_kit.specs.declared.port.Port.TheVariants.{ReadByA, ReadByB, Log}
use Rattle.sides.specs.declared.side.Side.TheVariants.{A, B}
use Rattle.actor_desk.specs.declared.ask.Note.{Note}
use Rattle.path_core.specs.Octets.{octets}
use Rattle.path_core.specs.Start.{drawn_of}
use Rattle.link_script.specs.declared.script.PathLine.{PathLine}
use Rattle.link_script.specs.declared.script.Script.{Script}
use Rattle.world_laws.specs.Openings.{Start, PathPlan, plans_from, paths_from, opened_world, start_of}
use Rattle.world_laws.specs.Outcomes.{outcome_of, output_of}
use Rattle.world_laws.specs.Worlds.{Turn, world_step, end_round}
use Rattle.world_laws.proofs.Rounds.SerialIsOne.{serial_is_one}
use Rattle.mptcp_run.specs.declared.report.Report.{Report}
use Rattle.mptcp_run.specs.declared.report.Report.TheVariants as report
use Rattle.run_outside.specs.declared.status.Status.{Status}
use Rattle.mptcp_run.specs.Logged.{HasRounds, IsSettled, replayed, TellsTheRun, LogTellsTheRun, WholeRunsAreTold, WholeRunsAgree}
use Rattle.mptcp_run.specs.Promised.{EndsWithRound}
use Rattle.world_core.specs.Kept.{HasFewNotes}
use Rattle.world_core.specs.RoundEnds.{round_ends, last_end, steps_by_round}
use Rattle.world_core.specs.Logged.{told_outcome}
use Rattle.world_core.proofs.TimedRounds.{timed_is_one}
use Rattle.run_outside.specs.LogText.{log_text, RoundsFit}
use Rattle.mptcp_run.specs.Putting.{log_opening, opening_in, status_of, last_line_of, last_line, steps_so_far, read_so_far, log_so_far, world_after, IsWhole}
use Rattle.run_outside.specs.Reading.{actors_of, width_of}
use Rattle.mptcp_run.specs.Task.{Connection, Task, Course, rounds, threads, told, first_world, turns_in, AreTurnsOf}
use Rattle.mptcp_run.specs.WovenRounds.{turns_told, AreAtMost}
use Rattle.mptcp_run.specs.declared.schedule.Schedule.TheVariants.{Serial, Timed}
use Rattle.mptcp_run.proofs.LogAgain.{log_read, rounds_logged}
use Rattle.mptcp_run.proofs.LogWoven.{AreWoven, turns_woven, told_to_the_end, course_lawful}
use Rattle.run_outside.proofs.PortsLemmas.{whole_more, more_weaker}
use Rattle.mptcp_run.proofs.Promised.{last_end_of_course}
use Rattle.mptcp_run.proofs.BySchedule.{few_by}
use Rattle.mptcp_run.proofs.UnderWay.{opened_begins}

-- ---- at least one round has ended

record SomeEnded (ends : List Connection) : Type 0 where
  first : Connection
  more : List Connection
  is : ends ≡ first ∷ more

at_round : (prefix : List Turn) (w : Connection) → SomeEnded (round_ends (prefix ++ Turn.Round ∷ []) w)
at_round [] w = record { first = end_round w; more = []; is = refl }
at_round (Turn.Step actor ∷ prefix) w = at_round prefix (world_step octets actor w)
at_round (Turn.Round ∷ prefix) w = record { first = end_round w; more = round_ends (prefix ++ Turn.Round ∷ []) (end_round w); is = refl }

woven_round : (most : ℕ) (ends : List Connection) → 1 ≤ most → AreAtMost most ends → SomeEnded ends
woven_round zero ends some few = absurd (omega (arith, some))
woven_round (suc most) [] some few = absurd few
woven_round (suc most) (v ∷ ends) some few = record { first = v; more = ends; is = refl }

course_round : (course : Course) (turns : List Turn) (w : Connection) → HasRounds course → AreTurnsOf course turns w → SomeEnded (round_ends turns w)
course_round (rounds schedule most) turns w has are = woven_round most (round_ends turns w) has (few_by schedule most turns w are)
course_round (threads most) turns w has are = woven_round most (round_ends turns w) has are.few
course_round (told order) turns w (prefix, order_is) are = subst (λ ts. SomeEnded (round_ends ts w)) (sym (are.0 ∙ order_is)) (at_round prefix w)

-- ---- the run that the log tells

-- how many actors a connection has
paths_many : (start : Start) (number : ℕ) (plans : List PathPlan) → length (paths_from {C = List ℕ} start number plans) ≡ length plans
paths_many start number [] = refl
paths_many start number (plan ∷ plans) = ap suc (paths_many start (suc number) plans)

plans_many : (script : Script) (number : ℕ) (lines : List PathLine) → length (plans_from script number lines) ≡ length lines
plans_many script number [] = refl
plans_many script number (line ∷ lines) = ap suc (plans_many script (suc number) lines)

actors_many : (script : Script) (file_a file_b : List ℕ) → length (opened_world {C = List ℕ} (start_of script file_a file_b)).crew ≡ actors_of script
actors_many script file_a file_b =
    let many = paths_many (start_of script file_a file_b) 0 (plans_from script 0 script.paths) ∙ plans_many script 0 script.paths in omega (arith, many)

width_fits : (script : Script) → width_of script < 256
width_fits script = by script.short
  where
    by : (b : Bool) → (if b then 4 else 8) < 256
    by true = omega arith
    by false = omega arith

-- a task with a log
abbrev logged : Script → List ℕ → List ℕ → Course → Task
logged script file_a file_b course = record { script = script; file_a = file_a; file_b = file_b; course = course; report = report.Log }

-- this task with such a report
abbrev reporting : Task → Report → Task
reporting task r = record { script = task.script; file_a = task.file_a; file_b = task.file_b; course = task.course; report = r }

-- the line of the outcome
abbrev outcome_line : Connection → List ℕ
outcome_line w = last_line_of report.Log 0 w

module _ (script : Script) (file_a file_b : List ℕ) (way : Course) (status : Status) (old new : Port → Option (List ℕ)) (few : length script.paths ≤ 16) (has : HasRounds way)
    (whole : IsWhole (logged script file_a file_b way) status old new) where
  abbrev task : Task
  task = logged script file_a file_b way

  abbrev made : List (List Note)
  made = steps_so_far task whole.turns

  abbrev noted : List Turn
  noted = turns_told made

  again : AreWoven whole.turns (first_world task) (first_world task)
  again = turns_woven whole.turns [] (first_world task) (first_world task) (opened_begins (start_of task.script task.file_a task.file_b)) refl
      (course_lawful task.course whole.turns (first_world task) whole.are)

  same_world : world_after task noted ≡ world_after task whole.turns
  same_world =
      sym (told_to_the_end made (first_world task)) ∙ ap (last_end (first_world task)) again.ends
      ∙ last_end_of_course task.course whole.turns (first_world task) (ends task.course has) whole.are
    where
      ends : (course : Course) → HasRounds course → EndsWithRound course
      ends (rounds schedule most) has = tt
      ends (threads most) has = tt
      ends (told order) has = has

  read_again : turns_in script (log_so_far task whole.turns ++ outcome_line (world_after task whole.turns)) ≡ Some noted
  read_again =
      let some = course_round task.course whole.turns (first_world task) has whole.are in
      log_read script (drawn_of script 0).key_a (drawn_of script 0).key_b made _ _ (told_outcome (outcome_of (world_after task whole.turns).crew)) (width_fits script)
      (ap (steps_by_round (first_world task)) some.is) whole.ports.fits
      (rounds_logged (start_of script file_a file_b) (let many = plans_many script 0 script.paths in omega (arith, many, few)) (actors_of script) (actors_many script file_a file_b) (log_opening script) whole.turns [] (first_world task) (first_world task) 0 refl whole.ports.fits)

  replay_whole : IsWhole (replayed task noted) status old new
  replay_whole = record {
    turns = noted;
    are = (refl, again.lawful);
    status_is = whole.status_is ∙ ap (λ w. status_of (outcome_of w.crew)) (sym same_world);
    ports = record {
      read_by_b = subst (λ es. HoldsAfter (old ReadByB) (new ReadByB) (λ _. output_of B (last_end (first_world task) es))) (sym again.ends) whole.ports.read_by_b;
      read_by_a = subst (λ es. HoldsAfter (old ReadByA) (new ReadByA) (λ _. output_of A (last_end (first_world task) es))) (sym again.ends) whole.ports.read_by_a;
      log = subst (λ es. HoldsAfter (old Log) (new Log) (λ held. held ++ (log_text (opening_in task) 0 (steps_by_round (first_world task) es) ++ outcome_line (world_after task noted)))) (sym again.ends)
          (subst (λ w. HoldsAfter (old Log) (new Log) (λ held. held ++ (log_so_far task whole.turns ++ outcome_line w))) (sym same_world) whole.ports.log);
      fits = subst (λ es. RoundsFit (opening_in task) 0 (steps_by_round (first_world task) es)) (sym again.ends) whole.ports.fits;
    };
    few = subst HasFewNotes (sym same_world) whole.few;
  }

  pub whole_run_is_told : LogTellsTheRun task whole.turns status old new
  whole_run_is_told =
      let text : List ℕ = log_so_far task whole.turns ++ outcome_line (world_after task whole.turns) in
      let tells : TellsTheRun task whole.turns status old new text = record { order = noted; read = read_again; whole = replay_whole; same = same_world } in
      more_weaker (old Log) (new Log) [] (λ all. all ≡ text) (TellsTheRun task whole.turns status old new) (λ all is. subst (TellsTheRun task whole.turns status old new) (sym is) tells)
      (whole_more (old Log) (new Log) [] text text whole.ports.log refl)

pub whole_runs_are_told : WholeRunsAreTold
whole_runs_are_told task status old new kept few has whole =
    by task.report kept whole
  where
    by : (r : Report) → r ≡ report.Log → (whole : IsWhole (reporting task r) status old new) → LogTellsTheRun (reporting task r) whole.turns status old new
    by report.Log is whole = whole_run_is_told task.script task.file_a task.file_b task.course status old new few has whole
    by (report.Summary number) is whole = cc

-- ---- runs of one task

turns_are_one : (course : Course) (ts us : List Turn) (w : Connection) → IsSettled course → AreTurnsOf course ts w → AreTurnsOf course us w → ts ≡ us
turns_are_one (rounds Serial most) ts us w settled x y = serial_is_one octets most ts us w x y
turns_are_one (rounds Timed most) ts us w settled x y = timed_is_one octets most ts us w x y
turns_are_one (threads most) ts us w settled x y = absurd settled
turns_are_one (told order) ts us w settled x y = x.0 ∙ sym y.0

pub whole_runs_agree : WholeRunsAgree
whole_runs_agree task status other old new before after settled one two =
    let same : two.turns ≡ one.turns = turns_are_one task.course two.turns one.turns (first_world task) settled two.are one.are in (
      one.status_is ∙ sym (two.status_is ∙ ap (λ ts. status_of (outcome_of (world_after task ts).crew)) same),
      record {
        text_b = read_so_far B task one.turns;
        read_by_b = (one.ports.read_by_b, subst (λ ts. HoldsAfter (before ReadByB) (after ReadByB) (λ _. read_so_far B task ts)) same two.ports.read_by_b);
        text_a = read_so_far A task one.turns;
        read_by_a = (one.ports.read_by_a, subst (λ ts. HoldsAfter (before ReadByA) (after ReadByA) (λ _. read_so_far A task ts)) same two.ports.read_by_a);
        text = log_so_far task one.turns ++ last_line task one.turns;
        log = (
          one.ports.log,
          subst (λ ts. HoldsAfter (before Log) (after Log) (λ held. held ++ (log_so_far task ts ++ last_line task ts))) same two.ports.log,
        );
      },
    )
