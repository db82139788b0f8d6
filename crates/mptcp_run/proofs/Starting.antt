-- A run that was opened, and how it goes on.
use Rattle.std.proofs.Common.{◌≡◌, refl, sym, ◌∙◌, ap, subst, ℕ, ◌+◌, List, [], Option, length}
use Rattle.outside_kit.specs.declared.port.Port.{Port}
use Rattle.outside_kit.specs.Outside.{Told}
use Rattle.run_words.specs.Lines.{Line}
use Rattle.run_outside.specs.declared.input.Input.{Input}
use Rattle.world_core.specs.Kept.{HasFewNotes, Kept}
use Rattle.world_laws.specs.Openings.{start_of, opened_world}
use Rattle.world_laws.specs.Outcomes.{outcome_of}
use Rattle.world_laws.specs.Worlds.{Turn}
use Rattle.mptcp_run.specs.declared.report.Report.{Report}
use Rattle.mptcp_run.specs.declared.report.Report.TheVariants as report
use Rattle.mptcp_run.specs.declared.rounds.Run.{Run}
use Rattle.run_outside.specs.declared.status.Status.{Status}
use Rattle.run_outside.specs.declared.status.Status.TheVariants.{Delivered, Put, Memory, Log}
use Rattle.mptcp_run.specs.Courses.{CourseMade, CourseCut, LogStops}
use Rattle.mptcp_run.specs.Ends.{CameToEnd, IsCut, ReplayEnds}
use Rattle.run_outside.specs.Plan.{AddsAll, AddsShort, binds_of}
use Rattle.run_outside.specs.Ports.{NeverFall, IsPortsFault}
use Rattle.world_core.specs.RoundEnds.{round_ends}
use Rattle.mptcp_run.specs.Putting.{opening_of, opening_in, status_of, ends_of, world_after, last_line, last_line_of}
use Rattle.mptcp_run.specs.Replaying.{IsReplayFault}
use Rattle.mptcp_run.specs.Rounds.{Begins, AtRound, IsOpened}
use Rattle.mptcp_run.specs.Task.{Connection, Course, Task, task_with, task_from, first_world}
use Rattle.mptcp_run.specs.Task as course
use Rattle.run_outside.proofs.Calls.{all_then}
use Rattle.mptcp_run.proofs.Performing.{AreBound, LogGrew, LogGrewPart, rounds_held, line_put, line_done, line_short, rounds_short}
use Rattle.run_outside.proofs.PortsLemmas.{risen_later}
use Rattle.mptcp_run.proofs.UnderWay.{opened_begins}

module _ (input : Input) (kind : Report) (run : Run) (h : IsOpened input kind run) where
  -- the run begins its first round
  pub opened_at : AtRound run
  opened_at = record {
    stands = ap (λ (k : Kept). k.failed) h.world;
    begins = subst (λ (k : Kept). Begins k.state) (sym h.world) (opened_begins (start_of input.script input.file_a input.file_b));
    made_is = h.made_is;
  }

  -- what holds from it on holds from the opening on
  pub as_opened : (P : Option (List ℕ) → Connection → Type 0) → P run.opening run.world.state
      → P (opening_of kind input.script) (opened_world (start_of input.script input.file_a input.file_b))
  as_opened P p =
      subst (λ o. P o (opened_world (start_of input.script input.file_a input.file_b))) h.opening (subst (λ (k : Kept). P run.opening k.state) h.world p)

-- ---- the last line

-- after so many rounds
pub line_after : (task : Task) (count : ℕ) (v : Connection) (turns : List Turn) → count ≡ length (ends_of task turns) → v ≡ world_after task turns
    → last_line_of task.report count v ≡ last_line task turns
line_after task count v turns many end =
    ap (λ n. last_line_of task.report n v) many ∙ ap (last_line_of task.report (length (ends_of task turns))) end

-- that of a log doesn't tell how many rounds ended
pub logged_line : (task : Task) (turns : List Turn) (count : ℕ) (v : Connection) → task.report ≡ report.Log → v ≡ world_after task turns
    → last_line_of report.Log count v ≡ last_line task turns
logged_line task turns count v kept end =
    ap (last_line_of report.Log (length (ends_of task turns))) end ∙ ap (λ r. last_line_of r (length (ends_of task turns)) (world_after task turns)) (sym kept)

-- ---- from its first round to the last line

module _ (input : Input) (kind : Report) (run : Run) (h : IsOpened input kind run) (line : Line) (a b c : Told) (held : AreBound a.holds b.holds)
    (bound : AddsAll (binds_of line) a.calls b.calls) where
  -- rounds
  module _ (way : Course) where
    abbrev rounds_run : Task
    rounds_run = task_with input way kind

    pub course_short : (status : Status) → CourseCut way run.opening run.world.state b c status → IsCut [] line (task_with input way kind) a c status
    course_short status cut =
        rounds_short line rounds_run a b c held bound status (as_opened input kind run h (λ o w. CourseCut way o w b c status) cut)

    module _ (count : ℕ) (v : Connection) (status : Status) (d : Told)
        (ok : (m : CourseMade way run.opening run.world.state v b c) × (count ≡ length (round_ends m.turns run.world.state))) where
      made : (m : CourseMade way (opening_in rounds_run) (first_world rounds_run) v b c) × (count ≡ length (ends_of rounds_run m.turns))
      made = as_opened input kind run h (λ o w. (m : CourseMade way o w v b c) × (count ≡ length (round_ends m.turns w))) ok

      pub course_done : HasFewNotes v → status ≡ status_of (outcome_of v.crew) → LogGrew (last_line_of kind count v) c.holds d.holds → AddsAll (line_put (last_line_of kind count v)) c.calls d.calls
          → CameToEnd [] line (task_with input way kind) a d status
      course_done few shown grew told =
          line_done line rounds_run a b c held bound v made.0 (last_line_of kind count v) (line_after rounds_run count v made.0.turns made.1 made.0.world)
          status d few shown grew told

      pub course_line_short : LogGrewPart (last_line_of kind count v) c.holds d.holds → AddsShort (line_put (last_line_of kind count v)) status c.calls d.calls
          → IsCut [] line (task_with input way kind) a d status
      course_line_short grew cut =
          line_short line rounds_run a b c held bound v made.0 (last_line_of kind count v) (line_after rounds_run count v made.0.turns made.1 made.0.world)
          status d grew cut

module _ (input : Input) (run : Run) (h : IsOpened input report.Log run) (line : Line) (a b c : Told) (held : AreBound a.holds b.holds)
    (bound : AddsAll (binds_of line) a.calls b.calls) (order : List Turn) where
  abbrev replay_run : Task
  replay_run = task_from input (course.told order)

  module _ (count : ℕ) (v : Connection) (status : Status) (d : Told) (ok : CourseMade (course.told order) run.opening run.world.state v b c) where
    told_made : CourseMade (course.told order) (opening_in replay_run) (first_world replay_run) v b c
    told_made = as_opened input report.Log run h (λ o w. CourseMade (course.told order) o w v b c) ok

    pub replay_done : HasFewNotes v → status ≡ status_of (outcome_of v.crew) → LogGrew (last_line_of report.Log count v) c.holds d.holds → AddsAll (line_put (last_line_of report.Log count v)) c.calls d.calls
        → CameToEnd [] line (task_from input (course.told order)) a d status
    replay_done few shown grew told =
        line_done line replay_run a b c held bound v told_made (last_line_of report.Log count v) (logged_line replay_run told_made.turns count v refl told_made.world)
        status d few shown grew told

    pub replay_line_short : LogGrewPart (last_line_of report.Log count v) c.holds d.holds → AddsShort (line_put (last_line_of report.Log count v)) status c.calls d.calls
        → IsCut [] line (task_from input (course.told order)) a d status
    replay_line_short grew cut =
        line_short line replay_run a b c held bound v told_made (last_line_of report.Log count v) (logged_line replay_run told_made.turns count v refl told_made.world)
        status d grew cut

-- ---- the turns of a log

module _ (line : Line) (task : Task) (order : List Turn) (is : task.course ≡ course.told order) (lines : ℕ) (a b c : Told) (held : AreBound a.holds b.holds) (bound : AddsAll (binds_of line) a.calls b.calls) where
  pub log_stops : (status : Status) → LogStops order lines (opening_in task) (first_world task) b c status → ReplayEnds [] line task a c lines status
  log_stops (Log at) h =
      let halted = h.1.1 in
      record {
        stopped = record {
          before = halted.made;
          turn = halted.turn;
          behind = halted.behind;
          order = is ∙ ap course.told halted.order_is;
          lawful = halted.lawful;
          refused = halted.refused;
          line_is = h.1.0 ∙ ap (λ n. lines + n + 1) halted.count_is;
          ports = rounds_held task halted.made a.holds b.holds c.holds held halted.ports;
        };
        calls = all_then (binds_of line) _ a.calls b.calls c.calls bound halted.calls;
      }
  log_stops (Put p) h =
      rounds_short line task a b c held bound (Put p) (subst (λ x. CourseCut x (opening_in task) (first_world task) b c (Put p)) (sym is) h)
  log_stops Memory h =
      rounds_short line task a b c held bound Memory (subst (λ x. CourseCut x (opening_in task) (first_world task) b c Memory) (sym is) h)
  log_stops Delivered h = absurd h
  log_stops _ h = absurd h

pub replay_stops : (input : Input) (run : Run) → IsOpened input report.Log run → (line : Line) (a b c : Told) → AreBound a.holds b.holds
    → AddsAll (binds_of line) a.calls b.calls → (order : List Turn) (lines : ℕ) (status : Status) → LogStops order lines run.opening run.world.state b c status
    → ReplayEnds [] line (task_from input (course.told order)) a c lines status
replay_stops input run h line a b c held bound order lines status stops =
    log_stops line (task_from input (course.told order)) order refl lines a b c held bound status
    (as_opened input report.Log run h (λ o w. LogStops order lines o w b c status) stops)

-- a replay that was cut off by a port
pub replay_is_cut : (line : Line) (task : Task) (lines : ℕ) (a b : Told) (before faults : Port → ℕ) (status : Status) → IsPortsFault before faults status
    → IsCut [] line task a b status → ReplayEnds [] line task a b lines status
replay_is_cut line task lines a b before faults (Put p) cause cut = cut
replay_is_cut line task lines a b before faults Memory cause cut = cut
replay_is_cut line task lines a b before faults _ cause cut = absurd cause

-- ---- causes

pub replay_cause : (before faults : Port → ℕ) (status : Status) → IsPortsFault before faults status → IsReplayFault before faults status
replay_cause before faults (Put p) cause = cause
replay_cause before faults Memory cause = tt
replay_cause before faults (Log at) cause = tt
replay_cause before faults _ cause = absurd cause

pub cause_after : (old middle new : Port → ℕ) (status : Status) → NeverFall old middle → IsReplayFault middle new status → IsReplayFault old new status
cause_after old middle new (Put p) few cause = risen_later (old p) (middle p) (new p) (few p) cause
cause_after old middle new Memory few cause = tt
cause_after old middle new (Log at) few cause = tt
cause_after old middle new _ few cause = absurd cause
