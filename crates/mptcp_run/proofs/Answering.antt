-- What each status of a run says, from what its parts say.
use Rattle.std.proofs.Common.{◌≡◌, refl, sym, ap, subst, ℕ, ◌≤◌, inl, inr, List, [], ◌++◌, Option, Some, None, Result, Ok, Err, IfOk, IfErr, IfSome, IsSome, length}
use Rattle.std.specs.Prelude.{option_and_then, option_map, map, IsOk, IsSomeAnd}
use Rattle.std.specs.Result.{result_ok}
use Rattle.world_core.specs.Logged.{turn_of, all_turns}
use Rattle.sides.specs.declared.side.Side.{Side}
use Rattle.outside_kit.specs.declared.port.Port.{Port}
use Rattle.outside_kit.specs.declared.port.Port.TheVariants as port
use Rattle.outside_kit.specs.Calls.{Call}
use Rattle.outside_kit.specs.Outside.{Told, HoldsAfter}
use Rattle.link_script.specs.declared.script.Script.{Script}
use Rattle.run_words.specs.Lines.{Line, run, replay, ◌>>=◌}
use Rattle.run_log.specs.declared.turn.Turn as log_turn
use Rattle.run_outside.specs.declared.input.Input.{Input}
use Rattle.stream_apps.specs.Starts.{fast_close_of}
use Rattle.world_laws.specs.PlainScripts.{AltersNone}
use Rattle.world_laws.specs.Worlds.{Turn}
use Rattle.world_laws.proofs.Promises.OfScripts.{short_of}
use Rattle.mptcp_run.specs.declared.report.Report.TheVariants as report
use Rattle.run_outside.specs.declared.status.Named.TheVariants as input
use Rattle.run_outside.specs.declared.status.Status.{Status}
use Rattle.run_outside.specs.declared.status.Status.TheVariants.{Delivered, Rounds, NoPath, Aborted, Usage, Script as ScriptStatus, Load, Put, TooLong, Memory, Log}
use Rattle.run_outside.specs.Loading.{InputAdds}
use Rattle.mptcp_run.specs.Answers.{WasRead, HasRun, HasStopped, TurnRow, CutRow, EndRow, IsAnswer, MadeEndRow, MadeCutRow, MadeRow, IsMadeAnswer}
use Rattle.run_outside.specs.Causes.{limit_of}
use Rattle.mptcp_run.specs.Ends.{HoldsSomeRounds, HoldsToLine, CameToEnd, IsCut, IsHalted, ReplayEnds, either}
use Rattle.run_outside.specs.Inputs.{order_of, content_of, AreFirstWithinLimits, IsInputFault, IsReplayInputFault, opening_count, AreWithinLimits, HasValidScript, HasValidOrder}
use Rattle.mptcp_run.specs.Logged.{HasRounds}
use Rattle.mptcp_run.specs.Made.{Bench}
use Rattle.run_outside.specs.Plan.{AddsAll, AddsCut, plan_of, loads_of}
use Rattle.mptcp_run.specs.Plan.{puts_so_far, all_puts}
use Rattle.run_outside.specs.Ports.{IsUntouched, IsPortsFault, HoldsMore, HoldsWithin, Ports}
use Rattle.mptcp_run.specs.Promised.{IsPlainTask, IsShortTask, EndsWithRound, IsAlwaysKept, HoldsPrefixOf, HoldsPrefixIfBound, NoneIsAltered, ReadersHaveAsMany, ReadersHaveFiles, ReadersHavePrefixes, ReadersHavePrefixesIfBound}
use Rattle.mptcp_run.specs.Putting.{IsWhole, IsStopped}
use Rattle.mptcp_run.specs.Replaying.{IsReplayFault}
use Rattle.mptcp_run.specs.Asked.{AsksInRange}
use Rattle.mptcp_run.specs.Schedules.{work_by}
use Rattle.mptcp_run.specs.declared.schedule.Schedule.{Schedule}
use Rattle.mptcp_run.specs.declared.schedule.Schedule.TheVariants.{Serial, Timed}
use Rattle.link_script.specs.Reading.{reading}
use Rattle.run_outside.specs.Reading.{script_in, script_of, log_reading}
use Rattle.mptcp_run.specs.Task.{Task, Course, rounds, threads, told, task_from, turns_in, course_of, task_of}
use Rattle.run_outside.proofs.Calls.{all_then, cut_then, short_then, short_cut}
use Rattle.mptcp_run.proofs.Unstopped.{never_stopped}
use Rattle.mptcp_run.proofs.Logged.{whole_runs_are_told}
use Rattle.mptcp_run.proofs.Promised.{plain_of, short_tasks_are_kept, checked_runs_are_right, delivered_runs_give_as_many, whole_runs_give_prefixes, whole_runs_have_cause, delivered_runs_give_files, stopped_runs_give_prefixes, cut_runs_give_prefixes, lines_cut_give_prefixes}

-- ---- the task

module _ {X : Type 0} where
  pub some_is : (o : Option X) (x : X) (P : X → Type 0) → IfSome o (λ y. y ≡ x) → P x → IfSome o P
  some_is None x P is p = tt
  some_is (Some y) x P is p = subst P (sym is) p

  pub some_always : (o : Option X) (P : X → Type 0) → ((x : X) → P x) → IfSome o P
  some_always None P p = tt
  some_always (Some x) P p = p x

  pub some_weaker : (o : Option X) (P Q : X → Type 0) → ((x : X) → P x → Q x) → IfSome o P → IfSome o Q
  some_weaker None P Q f h = tt
  some_weaker (Some x) P Q f h = f x h

task_known : (s a b : Option (List ℕ)) (c : Script → Option Course) (input : Input) (course : Course)
    → IfSome s (λ text. reading text ≡ Ok input.script) → IfSome a (λ text. input.file_a ≡ text) → IfSome b (λ text. input.file_b ≡ text) → IfSome (c input.script) (λ x. x ≡ course)
    → IfSome (option_and_then script_in s >>= λ script. a >>= λ file_a. b >>= λ file_b. c script >>= λ x. Some (record { script = script; file_a = file_a; file_b = file_b; course = x; report = report.Log }))
    (λ (t : Task). t ≡ task_from input course)
task_known None a b c input course script file_a file_b way = tt
task_known (Some s) a b c input course script file_a file_b way =
    subst (λ (o : Option Script). IfSome (o >>= λ script. a >>= λ file_a. b >>= λ file_b. c script >>= λ x. Some (record { script = script; file_a = file_a; file_b = file_b; course = x; report = report.Log }))
    (λ (t : Task). t ≡ task_from input course)) (sym (ap result_ok script)) (by a b (c input.script) file_a file_b way)
  where
    by : (a b : Option (List ℕ)) (c : Option Course) → IfSome a (λ text. input.file_a ≡ text) → IfSome b (λ text. input.file_b ≡ text) → IfSome c (λ x. x ≡ course)
        → IfSome (a >>= λ file_a. b >>= λ file_b. c >>= λ x. Some (record { script = input.script; file_a = file_a; file_b = file_b; course = x; report = report.Log })) (λ (t : Task). t ≡ task_from input course)
    by None b c file_a file_b way = tt
    by (Some a) None c file_a file_b way = tt
    by (Some a) (Some b) None file_a file_b way = tt
    by (Some a) (Some b) (Some c) file_a file_b way = cc

-- what a task of rounds by threads is
pub threads_task : (content : List ℕ → Option (List ℕ)) (line : Line) (most : ℕ) (input : Input) → line.work ≡ run most
    → IfSome (content line.names.script) (λ text. reading text ≡ Ok input.script)
    → IfSome (content line.names.file_a) (λ text. input.file_a ≡ text) → IfSome (content line.names.file_b) (λ text. input.file_b ≡ text)
    → IfSome (task_of content line) (λ t. t ≡ task_from input (threads most))
threads_task content line most input is script file_a file_b =
    task_known (content line.names.script) (content line.names.file_a) (content line.names.file_b) (λ s. course_of content s line.work) input (threads most) script file_a file_b
    (subst (λ w. IfSome (course_of content input.script w) (λ x. x ≡ threads most)) (sym is) refl)

-- rounds by a schedule read no log
pub unordered : (schedule : Schedule) (most : ℕ) → order_of (work_by schedule most) ≡ None
unordered Serial most = refl
unordered Timed most = refl

-- and are one at least
pub scheduled_some : (schedule : Schedule) (most : ℕ) → AsksInRange (work_by schedule most) → 1 ≤ most
scheduled_some Serial most some = some
scheduled_some Timed most some = some

-- what a task of them is
pub scheduled_task : (content : List ℕ → Option (List ℕ)) (line : Line) (schedule : Schedule) (most : ℕ) (input : Input) → line.work ≡ work_by schedule most
    → IfSome (content line.names.script) (λ text. reading text ≡ Ok input.script)
    → IfSome (content line.names.file_a) (λ text. input.file_a ≡ text) → IfSome (content line.names.file_b) (λ text. input.file_b ≡ text)
    → IfSome (task_of content line) (λ t. t ≡ task_from input (rounds schedule most))
scheduled_task content line schedule most input is script file_a file_b =
    task_known (content line.names.script) (content line.names.file_a) (content line.names.file_b) (λ s. course_of content s line.work) input (rounds schedule most) script file_a file_b
    (subst (λ w. IfSome (course_of content input.script w) (λ x. x ≡ rounds schedule most)) (sym is) (by schedule))
  where
    by : (schedule : Schedule) → IfSome (course_of content input.script (work_by schedule most)) (λ x. x ≡ rounds schedule most)
    by Serial = refl
    by Timed = refl

told_course : (script : Script) (o : Option (List ℕ)) (turns : List log_turn.Turn) → IfSome o (λ text. log_reading script text ≡ Ok turns)
    → IfSome (option_and_then (turns_in script) o) (λ ts. ts ≡ all_turns turns)
told_course script None turns h = tt
told_course script (Some text) turns h = subst (λ r. IfSome (option_map (map turn_of) (result_ok r)) (λ ts. ts ≡ all_turns turns)) (sym h) refl

told_way : (o : Option (List Turn)) (turns : List Turn) → IfSome o (λ ts. ts ≡ turns) → IfSome (option_map told o) (λ x. x ≡ told turns)
told_way None turns h = tt
told_way (Some ts) turns h = ap told h

-- what a task of the turns of a log is
pub replay_task : (content : List ℕ → Option (List ℕ)) (line : Line) (log : List ℕ) (turns : List log_turn.Turn) (input : Input) → line.work ≡ replay log
    → IfSome (content line.names.script) (λ text. reading text ≡ Ok input.script)
    → IfSome (content line.names.file_a) (λ text. input.file_a ≡ text) → IfSome (content line.names.file_b) (λ text. input.file_b ≡ text)
    → IfSome (content log) (λ text. log_reading input.script text ≡ Ok turns)
    → IfSome (task_of content line) (λ t. t ≡ task_from input (told (all_turns turns)))
replay_task content line log turns input is script file_a file_b order =
    task_known (content line.names.script) (content line.names.file_a) (content line.names.file_b) (λ s. course_of content s line.work) input (told (all_turns turns)) script file_a file_b
    (subst (λ w. IfSome (course_of content input.script w) (λ x. x ≡ told (all_turns turns))) (sym is)
    (told_way (option_and_then (turns_in input.script) (content log)) (all_turns turns) (told_course input.script (content log) turns order)))

-- ---- from ports that hold the same

after_from : (a b c : Option (List ℕ)) (f : List ℕ → List ℕ) → b ≡ a → HoldsAfter b c f → HoldsAfter a c f
after_from a b c f same h = subst (λ o. HoldsAfter o c f) same h

more_from : (a b c : Option (List ℕ)) (before : List ℕ) (P : List ℕ → Type 0) → b ≡ a → HoldsMore b c before P → HoldsMore a c before P
more_from a b c before P same h = subst (λ o. HoldsMore o c before P) same h

within_from : (unbegun : Type 0) (a b c : Option (List ℕ)) (low high : List ℕ) → b ≡ a → HoldsWithin unbegun b c low high → HoldsWithin unbegun a c low high
within_from unbegun a b c low high same h = subst (λ o. HoldsWithin unbegun o c low high) same h

module _ (a b c : Ports) (same : (p : Port) → b p ≡ a p) where
  whole_from : (task : Task) (status : Status) → IsWhole task status b c → IsWhole task status a c
  whole_from task status h = record {
    turns = h.turns;
    are = h.are;
    status_is = h.status_is;
    ports = record {
      read_by_b = after_from (a port.ReadByB) (b port.ReadByB) (c port.ReadByB) _ (same port.ReadByB) h.ports.read_by_b;
      read_by_a = after_from (a port.ReadByA) (b port.ReadByA) (c port.ReadByA) _ (same port.ReadByA) h.ports.read_by_a;
      log = after_from (a port.Log) (b port.Log) (c port.Log) _ (same port.Log) h.ports.log;
      fits = h.ports.fits;
    };
    few = h.few;
  }

  rounds_from : (task : Task) → HoldsSomeRounds task b c → HoldsSomeRounds task a c
  rounds_from task h = record {
    turns = h.turns;
    more = h.more;
    are = h.are;
    one = h.one;
    ports = record {
      read_by_b = within_from _ (a port.ReadByB) (b port.ReadByB) (c port.ReadByB) _ _ (same port.ReadByB) h.ports.read_by_b;
      read_by_a = within_from _ (a port.ReadByA) (b port.ReadByA) (c port.ReadByA) _ _ (same port.ReadByA) h.ports.read_by_a;
      log = more_from (a port.Log) (b port.Log) (c port.Log) [] _ (same port.Log) h.ports.log;
    };
  }

  line_from : (task : Task) (turns : List Turn) → HoldsToLine task turns b c → HoldsToLine task turns a c
  line_from task turns h = record {
    read_by_b = after_from (a port.ReadByB) (b port.ReadByB) (c port.ReadByB) _ (same port.ReadByB) h.read_by_b;
    read_by_a = after_from (a port.ReadByA) (b port.ReadByA) (c port.ReadByA) _ (same port.ReadByA) h.read_by_a;
    log = more_from (a port.Log) (b port.Log) (c port.Log) [] _ (same port.Log) h.log;
  }

  stopped_from : (task : Task) (opening line : ℕ) → IsStopped task opening line b c → IsStopped task opening line a c
  stopped_from task opening line h = record {
    before = h.before;
    turn = h.turn;
    behind = h.behind;
    order = h.order;
    lawful = h.lawful;
    refused = h.refused;
    line_is = h.line_is;
    ports = record {
      read_by_b = after_from (a port.ReadByB) (b port.ReadByB) (c port.ReadByB) _ (same port.ReadByB) h.ports.read_by_b;
      read_by_a = after_from (a port.ReadByA) (b port.ReadByA) (c port.ReadByA) _ (same port.ReadByA) h.ports.read_by_a;
      log = after_from (a port.Log) (b port.Log) (c port.Log) _ (same port.Log) h.ports.log;
      fits = h.ports.fits;
    };
  }

-- behind loads
module _ (a b c : Told) (same : (p : Port) → b.holds p ≡ a.holds p) (line : Line) (task : Task) (loaded : AddsAll (loads_of line) a.calls b.calls) where
  pub end_from : (status : Status) → CameToEnd [] line task b c status → CameToEnd (loads_of line) line task a c status
  unfolding whole_from
  end_from status h = record {
    ended = h.ended;
    whole = whole_from a.holds b.holds c.holds same task status h.whole;
    calls = all_then (loads_of line) _ a.calls b.calls c.calls loaded h.calls;
  }

  pub cut_from : (status : Status) → IsCut [] line task b c status → IsCut (loads_of line) line task a c status
  unfolding rounds_from
  cut_from status (inl h) = inl (record {
    ports = rounds_from a.holds b.holds c.holds same task h.ports;
    calls = cut_then (loads_of line) _ status a.calls b.calls c.calls loaded h.calls;
  })
  cut_from status (inr h) = inr (record {
    turns = h.turns;
    are = h.are;
    ports = line_from a.holds b.holds c.holds same task h.turns h.ports;
    calls = short_then (loads_of line) _ status a.calls b.calls c.calls loaded h.calls;
  })

  pub replay_from : (lines : ℕ) (status : Status) → ReplayEnds [] line task b c lines status → ReplayEnds (loads_of line) line task a c lines status
  unfolding stopped_from
  replay_from lines (Log at) h = record {
    stopped = stopped_from a.holds b.holds c.holds same task lines at h.stopped;
    calls = all_then (loads_of line) _ a.calls b.calls c.calls loaded h.calls;
  }
  replay_from lines (Put p) h = cut_from (Put p) h
  replay_from lines Memory h = cut_from Memory h
  replay_from lines _ h = absurd h

-- ---- prefixes

bound_or_not : (old new : Option (List ℕ)) (file : List ℕ) → HoldsPrefixOf old new file → HoldsPrefixIfBound old new file
bound_or_not None new file h = tt
bound_or_not (Some held) new file h = inr h

pub cut_prefixes : (loads : List Call) (line : Line) (task : Task) (old new : Told) (status : Status) → IsPlainTask task
    → IsCut loads line task old new status → ReadersHavePrefixesIfBound (Some task.file_a) (Some task.file_b) old.holds new.holds
cut_prefixes loads line task old new status plain (inl h) = cut_runs_give_prefixes task old.holds new.holds plain h.ports
cut_prefixes loads line task old new status plain (inr h) =
    let p = lines_cut_give_prefixes task h.turns old.holds new.holds plain h.ports in
    record {
      read_by_b = bound_or_not (old.holds port.ReadByB) (new.holds port.ReadByB) task.file_a p.read_by_b;
      read_by_a = bound_or_not (old.holds port.ReadByA) (new.holds port.ReadByA) task.file_b p.read_by_a;
    }

-- the calls alone
cut_calls : (loads : List Call) (line : Line) (task : Task) (old new : Told) (status : Status) → IsCut loads line task old new status
    → (puts : List Call) × AddsCut (plan_of loads line puts) status old.calls new.calls
cut_calls loads line task old new status (inl h) = (puts_so_far task (h.ports.turns ++ h.ports.more), h.calls)
cut_calls loads line task old new status (inr h) = (all_puts task h.turns, short_cut _ status old.calls new.calls h.calls)

-- ---- what was read

-- the script that was read is the one that the line names
pub known_script : (o : Option (List ℕ)) (script : Script) (P : Script → Type 0) → IfSome o (λ text. reading text ≡ Ok script) → P script
    → IfSome (option_and_then script_in o) P
known_script None script P is p = tt
known_script (Some text) script P is p = subst (λ r. IfSome (result_ok r) P) (sym is) p

some_said : (o : Option Script) (script : Script) (P : Script → Type 0) → IsSomeAnd o P → IfSome o (λ s. s ≡ script) → P script
some_said None script P all is = absurd all
some_said (Some s) script P all is = subst P is all

ok_known : {X E : Type 0} (r : Result X E) (x : X) → r ≡ Ok x → IsOk r
ok_known r x is = subst (λ q. IsOk q) (sym is) refl

module _ (content : List ℕ → Option (List ℕ)) (line : Line) where
  -- of a run that reads no log
  pub unordered_within : order_of line.work ≡ None → AreFirstWithinLimits content line → AreWithinLimits content line
  unordered_within none h input.Script = h.0
  unordered_within none h input.FileA = h.1.0
  unordered_within none h input.FileB = h.1.1
  unordered_within none h input.Order = subst (λ (o : Option (List ℕ)). IfSome (option_and_then content o) (λ told. length told ≤ limit_of input.Order)) (sym none) tt

  pub script_valid : (script : Script) → IfSome (content line.names.script) (λ text. reading text ≡ Ok script) → HasValidScript content line
  script_valid script h = some_weaker (content line.names.script) _ _ (λ text is. ok_known (reading text) script is) h

  pub unordered_valid : order_of line.work ≡ None → HasValidOrder content line
  unordered_valid none = some_always (script_of content line) _
      (λ script. subst (λ (o : Option (List ℕ)). IfSome (option_and_then content o) (λ told. IsOk (log_reading script told))) (sym none) tt)

  pub replay_order : (log : List ℕ) (turns : List log_turn.Turn) (script : Script) → line.work ≡ replay log
      → IfSome (content line.names.script) (λ text. reading text ≡ Ok script) → IfSome (content log) (λ text. log_reading script text ≡ Ok turns)
      → HasValidOrder content line
  replay_order log turns script is read h =
      known_script (content line.names.script) script (λ s. IfSome (content_of content line input.Order) (λ told. IsOk (log_reading s told))) read
      (subst (λ w. IfSome (option_and_then content (order_of w)) (λ told. IsOk (log_reading script told))) (sym is)
      (some_weaker (content log) _ _ (λ text same. ok_known (log_reading script text) turns same) h))

-- ---- answers

some_of : {X : Type 0} (o : Option X) (x : X) (P : X → Type 0) → IfSome o (λ y. x ≡ y) → P x → IfSome o P
some_of None x P is p = tt
some_of (Some y) x P is p = subst P is p

module _ (line : Line) (old new : Told) where
  abbrev Answer : Status → Type 0
  Answer status = IsAnswer line old new status

  -- what a run without a log reads ends it
  pub input_answer : (plan : List Call) (status : Status) → order_of line.work ≡ None → IsUntouched old new
      → IsInputFault old.content line old.load_faults new.load_faults status → plan ≡ loads_of line → InputAdds line plan old.calls new.calls status
      → IsAnswer line old new status
  input_answer plan (Load named) is still h plan_is calls = record { cause = h; untouched = still; calls = calls }
  input_answer plan (TooLong named) is still h plan_is calls = record { cause = h; untouched = still; calls = calls }
  input_answer plan (ScriptStatus at kind) is still h plan_is calls = record {
    within = unordered_within old.content line is h.0;
    cause = h.1;
    untouched = still;
    calls = subst (λ xs. AddsAll xs old.calls new.calls) plan_is calls;
  }
  input_answer plan Memory is still h plan_is calls = inl (record { untouched = still; calls = subst (λ xs. AddsCut xs Memory old.calls new.calls) plan_is calls })
  input_answer plan Delivered is still h plan_is calls = absurd h
  input_answer plan Rounds is still h plan_is calls = absurd h
  input_answer plan NoPath is still h plan_is calls = absurd h
  input_answer plan (Aborted reader) is still h plan_is calls = absurd h
  input_answer plan Usage is still h plan_is calls = absurd h
  input_answer plan (Put p) is still h plan_is calls = absurd h
  input_answer plan (Log at) is still h plan_is calls = absurd h

  -- what a run of the turns of a log reads does
  pub replay_input_answer : (log : List ℕ) (status : Status) → line.work ≡ replay log → IsUntouched old new
      → IsReplayInputFault old.content line old.load_faults new.load_faults status → InputAdds line (loads_of line) old.calls new.calls status
      → IsAnswer line old new status
  replay_input_answer log (Load named) is still h calls = record { cause = h; untouched = still; calls = calls }
  replay_input_answer log (TooLong named) is still h calls = record { cause = h; untouched = still; calls = calls }
  replay_input_answer log (ScriptStatus at kind) is still h calls = record { within = h.0; cause = h.1; untouched = still; calls = calls }
  replay_input_answer log (Log at) is still h calls = inl (record {
    replay = subst (λ w. IsSome (order_of w)) (sym is) refl;
    within = h.0;
    script = h.1.0;
    cause = h.1.1;
    untouched = still;
    calls = calls;
  })
  replay_input_answer log Memory is still h calls = inl (record { untouched = still; calls = calls })
  replay_input_answer log Delivered is still h calls = absurd h
  replay_input_answer log Rounds is still h calls = absurd h
  replay_input_answer log NoPath is still h calls = absurd h
  replay_input_answer log (Aborted reader) is still h calls = absurd h
  replay_input_answer log Usage is still h calls = absurd h
  replay_input_answer log (Put p) is still h calls = absurd h

  -- ---- behind the loads

  module _ (task : Task) (known : IfSome (task_of old.content line) (λ t. t ≡ task)) (short : IsShortTask task)
      (file_a : IfSome (old.content line.names.file_a) (λ text. task.file_a ≡ text)) (file_b : IfSome (old.content line.names.file_b) (λ text. task.file_b ≡ text))
      (within : AreWithinLimits old.content line) (said : IfSome (old.content line.names.script) (λ text. reading text ≡ Ok task.script)) (order : HasValidOrder old.content line) where
    -- where no line of the script alters a payload
    plain : NoneIsAltered old.content line → IsPlainTask task
    plain none = plain_of task short (some_said (script_of old.content line) task.script AltersNone none (known_script (old.content line.names.script) task.script (λ s. s ≡ task.script) said refl))

    was_read : WasRead old.content line
    was_read = record {
      within = within;
      script = script_valid old.content line task.script said;
      order = order;
      kept = some_is (task_of old.content line) task IsAlwaysKept known (λ turns. short_tasks_are_kept task turns short);
    }

    prefixes : ReadersHavePrefixes (Some task.file_a) (Some task.file_b) old.holds new.holds
        → ReadersHavePrefixes (old.content line.names.file_a) (old.content line.names.file_b) old.holds new.holds
    prefixes h = record {
      read_by_b = some_of (old.content line.names.file_a) task.file_a _ file_a h.read_by_b;
      read_by_a = some_of (old.content line.names.file_b) task.file_b _ file_b h.read_by_a;
    }

    prefixes_if_bound : ReadersHavePrefixesIfBound (Some task.file_a) (Some task.file_b) old.holds new.holds
        → ReadersHavePrefixesIfBound (old.content line.names.file_a) (old.content line.names.file_b) old.holds new.holds
    prefixes_if_bound h = record {
      read_by_b = some_of (old.content line.names.file_a) task.file_a _ file_a h.read_by_b;
      read_by_a = some_of (old.content line.names.file_b) task.file_b _ file_b h.read_by_a;
    }

    files : ReadersHaveFiles (Some task.file_a) (Some task.file_b) old.holds new.holds
        → ReadersHaveFiles (old.content line.names.file_a) (old.content line.names.file_b) old.holds new.holds
    files h = record {
      read_by_b = some_of (old.content line.names.file_a) task.file_a _ file_a h.read_by_b;
      read_by_a = some_of (old.content line.names.file_b) task.file_b _ file_b h.read_by_a;
    }

    many : ReadersHaveAsMany (Some task.file_a) (Some task.file_b) old.holds new.holds
        → ReadersHaveAsMany (old.content line.names.file_a) (old.content line.names.file_b) old.holds new.holds
    many h = record {
      read_by_b = some_of (old.content line.names.file_a) task.file_a _ file_a h.read_by_b;
      read_by_a = some_of (old.content line.names.file_b) task.file_b _ file_b h.read_by_a;
    }

    -- a run came to its own end
    module _ (kept : task.report ≡ report.Log) (some : HasRounds task.course) (ends : EndsWithRound task.course) where
      end_row : (status : Status) → CameToEnd (loads_of line) line task old new status
          → EndRow line old new status
      end_row status h = record {
        read = was_read;
        puts = all_puts task h.whole.turns;
        run = some_is (task_of old.content line) task (λ t. HasRun t status (all_puts task h.whole.turns) old.holds new.holds) known (record {
          whole = h.whole;
          puts_are = refl;
          logged = whole_runs_are_told task status old.holds new.holds kept short.ranges.few_paths some h.whole;
          caused = whole_runs_have_cause task status old.holds new.holds short h.whole;
          checked = λ uses. checked_runs_are_right task status old.holds new.holds short ends uses h.whole;
        });
        prefixes = λ none. prefixes (whole_runs_give_prefixes task status old.holds new.holds (plain none) h.whole);
        calls = h.calls;
      }

      pub end_answer : (status : Status) → CameToEnd (loads_of line) line task old new status
          → IsAnswer line old new status
      end_answer Delivered h = record {
        row = end_row Delivered h;
        many = many (delivered_runs_give_as_many task old.holds new.holds short ends h.whole);
        files = λ none. files (delivered_runs_give_files task old.holds new.holds (plain none) ends h.whole);
      }
      end_answer Rounds h = end_row Rounds h
      end_answer NoPath h = end_row NoPath h
      end_answer (Aborted reader) h = end_row (Aborted reader) h
      end_answer Usage h = absurd h.ended
      end_answer (ScriptStatus at kind) h = absurd h.ended
      end_answer (Load named) h = absurd h.ended
      end_answer (Put p) h = absurd h.ended
      end_answer (TooLong named) h = absurd h.ended
      end_answer Memory h = absurd h.ended
      end_answer (Log at) h = absurd h.ended

    -- a run that was cut off
    cut_row : (status : Status) → IsCut (loads_of line) line task old new status
        → CutRow line old new status
    cut_row status h = record {
      read = was_read;
      cut = some_is (task_of old.content line) task (λ t. IsCut (loads_of line) line t old new status) known h;
      prefixes = λ none. prefixes_if_bound (cut_prefixes (loads_of line) line task old new status (plain none) h);
      calls = cut_calls (loads_of line) line task old new status h;
    }

    pub cut_answer : (status : Status) → IsPortsFault old.port_faults new.port_faults status → IsCut (loads_of line) line task old new status
        → IsAnswer line old new status
    cut_answer (Put p) fault h = (fault, cut_row (Put p) h)
    cut_answer Memory fault h = inr (cut_row Memory h)
    cut_answer _ fault h = absurd fault

    -- or one of its turns can't be made
    module _ (log : List ℕ) (opening : ℕ) (is : line.work ≡ replay log) (count : IfSome (old.content log) (λ text. opening ≡ opening_count text)) where
      turn_row : (at : ℕ) → IsHalted (loads_of line) line task old new opening at
          → TurnRow line old new at
      turn_row at h = record {
        replay = subst (λ w. IsSome (order_of w)) (sym is) refl;
        read = was_read;
        puts = puts;
        stopped = subst (λ w. IfSome (option_and_then old.content (order_of w)) (λ text. IfSome (task_of old.content line) (λ t. HasStopped t (opening_count text) at puts old.holds new.holds))) (sym is)
            (some_weaker (old.content log) (λ text. opening ≡ opening_count text) (λ text. IfSome (task_of old.content line) (λ t. HasStopped t (opening_count text) at puts old.holds new.holds))
            (λ text same. some_is (task_of old.content line) task (λ t. HasStopped t (opening_count text) at puts old.holds new.holds) known
            (subst (λ n. HasStopped task n at puts old.holds new.holds) same (record { stopped = h.stopped; puts_are = refl }))) count);
        prefixes = λ none. prefixes (stopped_runs_give_prefixes task opening at old.holds new.holds (plain none) h.stopped);
        calls = h.calls;
      }
        where
          puts : List Call
          puts = puts_so_far task h.stopped.before

      pub replay_answer : (status : Status) → IsReplayFault old.port_faults new.port_faults status → ReplayEnds (loads_of line) line task old new opening status
          → IsAnswer line old new status
      replay_answer (Log at) fault h = inr (turn_row at h)
      replay_answer (Put p) fault h = (fault, cut_row (Put p) h)
      replay_answer Memory fault h = inr (cut_row Memory h)
      replay_answer _ fault h = absurd h

-- what the answer says, by what both ways say
pub either_way : {A B C : Status → Type 0} (P : Status → Type 0) (r : Result Status Status) → IfOk r A → IfErr r B → IfErr r C
    → ((status : Status) → A status → P status) → ((status : Status) → B status → C status → P status) → P (either r)
either_way P (Ok status) a b c whole cut = whole status a
either_way P (Err status) a b c whole cut = cut status b c

-- ---- the made input

module _ (made : Bench) (plain : IsPlainTask made.task) (unstopped : (s : Side) → fast_close_of s made.task.script.lines ≡ None) (old new : Told) (same : new.load_faults ≡ old.load_faults) where
  made_short : IsShortTask made.task
  made_short = short_of made.task.script made.task.file_a made.task.file_b plain

  with_row : (status : Status) → MadeRow made old new status
      → IsMadeAnswer made old new status
  with_row status row = record { row = row; kept = λ turns. short_tasks_are_kept made.task turns made_short; unloaded = same }

  made_end_row : (status : Status) → EndsWithRound made.task.course → CameToEnd [] made.line made.task old new status
      → MadeEndRow made old new status
  made_end_row status ends h = record {
    whole = h.whole;
    checked = λ uses. checked_runs_are_right made.task status old.holds new.holds made_short ends uses h.whole;
    prefixes = whole_runs_give_prefixes made.task status old.holds new.holds plain h.whole;
    calls = h.calls;
  }

  pub made_end_answer : (status : Status) → EndsWithRound made.task.course → CameToEnd [] made.line made.task old new status
      → IsMadeAnswer made old new status
  made_end_answer Delivered ends h = with_row Delivered (made_end_row Delivered ends h, delivered_runs_give_files made.task old.holds new.holds plain ends h.whole)
  made_end_answer Rounds ends h = with_row Rounds (made_end_row Rounds ends h)
  made_end_answer NoPath ends h = with_row NoPath (made_end_row NoPath ends h)
  made_end_answer (Aborted reader) ends h =
      absurd (never_stopped made.task h.whole.turns reader unstopped (whole_runs_have_cause made.task (Aborted reader) old.holds new.holds made_short h.whole))
  made_end_answer Usage ends h = absurd h.ended
  made_end_answer (ScriptStatus at kind) ends h = absurd h.ended
  made_end_answer (Load named) ends h = absurd h.ended
  made_end_answer (Put p) ends h = absurd h.ended
  made_end_answer (TooLong named) ends h = absurd h.ended
  made_end_answer Memory ends h = absurd h.ended
  made_end_answer (Log at) ends h = absurd h.ended

  made_cut_row : (status : Status) → IsCut [] made.line made.task old new status
      → MadeCutRow made old new status
  made_cut_row status h = record { cut = h; prefixes = cut_prefixes [] made.line made.task old new status plain h }

  pub made_cut_answer : (status : Status) → IsPortsFault old.port_faults new.port_faults status → IsCut [] made.line made.task old new status
      → IsMadeAnswer made old new status
  made_cut_answer (Put p) fault h = with_row (Put p) (fault, made_cut_row (Put p) h)
  made_cut_answer Memory fault h = with_row Memory (made_cut_row Memory h)
  made_cut_answer _ fault h = absurd fault
