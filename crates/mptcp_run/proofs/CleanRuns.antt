-- A run of a script of which it is known how many rounds are enough, with as many, delivers both files.
use Rattle.std.proofs.Common.{◌≡◌, refl, sym, ◌∙◌, ap, subst, ℕ, zero, suc, ◌+◌, ◌≤◌, ◌&&◌, ◌||◌, if◌then◌else◌, inl, inr, ◌⊎◌, ⊎_elim, Bool, true, false, List, [], ◌∷◌, length, Option, Some, None, IfSome, IsSome, arith}
use Rattle.std.specs.Prelude.{IsSomeAnd, nat_le, not, option_map}
use Rattle.std.specs.List.{list_all}
use Rattle.std.proofs.lemmas.Bool.{and_from, and_parts, both_ways, leb-true}
use Rattle.std.proofs.lemmas.Option.{same_Some}
use Rattle.outside_kit.specs.Outside.{Told}
use Rattle.sides.specs.declared.side.Side.TheVariants.{A}
use Rattle.link_script.specs.declared.script.PathLine.{PathLine}
use Rattle.link_script.specs.declared.script.Script.{Script}
use Rattle.link_script.specs.declared.script.ScriptLine.{ScriptLine}
use Rattle.link_script.specs.declared.script.ScriptLine.TheVariants.{Die, Remove}
use Rattle.link_script.specs.Scripts.{HasRanges}
use Rattle.link_script.proofs.ReadRanges.{read_has_ranges}
use Rattle.whole_paths.specs.FewTexts.{LosesFew, early_by_text}
use Rattle.whole_paths.specs.FilesFit.{FitsFirstWindow}
use Rattle.whole_paths.specs.Finish.{harms_to, is_harmless_to_ends, is_mild, is_on_direction, patience, patient_rounds}
use Rattle.whole_paths.specs.Finish.{rounds_in as whole_rounds}
use Rattle.whole_paths.specs.QuietTexts.{MovesNoneOfFirst}
use Rattle.whole_paths.proofs.BriefRuns.{few_steps_are_brief}
use Rattle.whole_paths.proofs.FewTexts.{few_texts_finish, few_texts_go_on}
use Rattle.clean_finish.specs.Bound.{enough}
use Rattle.clean_finish.specs.Finish.{rounds_in}
use Rattle.clean_finish.proofs.Finished.{clean_scripts_finish, clean_scripts_go_on}
use Rattle.path_core.specs.Octets.{octets}
use Rattle.run_words.specs.Lines.{Line, Work, run, serial, timed, replay, bench}
use Rattle.run_outside.specs.declared.status.Named.TheVariants as input
use Rattle.run_outside.specs.declared.status.Status.{Status}
use Rattle.run_outside.specs.declared.status.Status.TheVariants.{Delivered, Rounds, NoPath, Aborted, Usage, Script as BadScript, Load, Put, TooLong, Memory, Log}
use Rattle.run_outside.specs.Inputs.{AreWithinLimits, order_of}
use Rattle.world_core.specs.Kept.{HasFewNotes}
use Rattle.world_core.specs.RoundEnds.{round_ends, last_end}
use Rattle.world_laws.specs.declared.outcome.Outcome.TheVariants as outcome
use Rattle.world_laws.specs.Openings.{opened_world, start_of}
use Rattle.world_laws.specs.Outcomes.{outcome_of}
use Rattle.world_laws.specs.Serial.{goes_on, OneOf}
use Rattle.world_laws.specs.Worlds.{AreLawful, Turn, world_step, end_round, world_run}
use Rattle.mptcp_run.specs.Answers.{IsAnswer, EndRow, HasRun}
use Rattle.mptcp_run.specs.Clean.{AsksRounds, Bound, CleanRunsDeliver, DeliversBy, DeliversIfClean, DeliversIfFew, EnoughRunsDeliver, FewRunsDeliver, HasRoundsBy}
use Rattle.mptcp_run.specs.Enough.{few_enough, or_else, rounds_enough, few_on, fits_first, harms_allowed, is_gentle, loses_few, moves_none_of_a}
use Rattle.mptcp_run.specs.Ends.{HasEnded}
use Rattle.mptcp_run.specs.Putting.{status_of, world_after}
use Rattle.mptcp_run.specs.Task.{Connection, Task, Course, rounds, threads, told, first_world, course_of, task_of, AreTurnsOf}
use Rattle.mptcp_run.specs.WovenRounds.{AreAtMost}
use Rattle.mptcp_run.proofs.Complete.{valid_inputs_are_run}
use Rattle.mptcp_run.proofs.LogWoven.{course_lawful}
use Rattle.mptcp_run.proofs.PlainTasks.{task_is}
use Rattle.mptcp_run.proofs.Promised.{last_end_of_course}
use Rattle.mptcp_run.proofs.BySchedule.{few_by}

-- ---- how many rounds were made

ends_are : (turns : List Turn) (w : Connection) → length (round_ends turns w) ≡ rounds_in turns
ends_are [] w = refl
ends_are (Turn.Step actor ∷ turns) w = ends_are turns (world_step octets actor w)
ends_are (Turn.Round ∷ turns) w = ap suc (ends_are turns (end_round w))

-- where the connection goes on behind the last one, as many as may be made
all_made : (most : ℕ) (w : Connection) (ends : List Connection) → AreAtMost most ends → goes_on (outcome_of (last_end w ends).crew) ≡ true → most ≤ length ends
all_made zero w ends few on = omega arith
all_made (suc most) w [] few on = absurd few
all_made (suc most) w (v ∷ ends) few on = by (goes_on (outcome_of v.crew)) refl (λ more. all_made most v ends more on) few
  where
    by : (b : Bool) → goes_on (outcome_of v.crew) ≡ b → (AreAtMost most ends → most ≤ length ends) → OneOf b (AreAtMost most ends) (ends ≡ []) → suc most ≤ suc (length ends)
    by true e rest more = let less = rest more in omega (arith, less)
    by false e rest none = absurd (both_ways (goes_on (outcome_of v.crew)) e
        (subst (λ (es : List Connection). goes_on (outcome_of (last_end v es).crew) ≡ true) none on))

at_most_made : (least most : ℕ) (turns : List Turn) (w : Connection) → least ≤ most → AreAtMost most (round_ends turns w)
    → goes_on (outcome_of (last_end w (round_ends turns w)).crew) ≡ true → least ≤ rounds_in turns
at_most_made least most turns w less few on =
    let all = all_made most w (round_ends turns w) few on in
    let same = ends_are turns w in
    omega (arith, less, all, same)

-- a run that goes on has made all rounds that it might
asked_made : (course : Course) (least : ℕ) (turns : List Turn) (w : Connection) → AsksRounds least course → AreTurnsOf course turns w
    → goes_on (outcome_of (world_run octets turns w).crew) ≡ true → least ≤ rounds_in turns
asked_made (rounds schedule most) least turns w asks are on =
    at_most_made least most turns w asks (few_by schedule most turns w are)
    (ap (λ (v : Connection). goes_on (outcome_of v.crew)) (last_end_of_course (rounds schedule most) turns w tt are) ∙ on)
asked_made (threads most) least turns w asks are on =
    at_most_made least most turns w asks are.few
    (ap (λ (v : Connection). goes_on (outcome_of v.crew)) (last_end_of_course (threads most) turns w tt are) ∙ on)
asked_made (told order) least turns w asks are on = absurd asks

-- ---- a task

-- what a command line whose inputs are within their limits makes of them; a log's rounds aren't asked for
record IsLoadedTask (work : Work) (task : Task) : Type 0 where
  ranges : HasRanges task.script
  small_a : length task.file_a ≤ 16777216
  small_b : length task.file_b ≤ 16777216
  logged : IsSome (order_of work) → (least : ℕ) → AsksRounds least task.course → ⊥

log_is_told : (o : Option (List Turn)) (x : Course) → option_map told o ≡ Some x → (least : ℕ) → AsksRounds least x → ⊥
log_is_told None x e least asks = cc (e)
log_is_told (Some order) x e least asks = subst (λ (c : Course). AsksRounds least c) (sym (same_Some (told order) x e)) asks

logged_course : (content : List ℕ → Option (List ℕ)) (script : Script) (work : Work) (x : Course) → course_of content script work ≡ Some x → IsSome (order_of work)
    → (least : ℕ) → AsksRounds least x → ⊥
logged_course content script (serial most) x e some = let no : IsSome {T = List ℕ} None = some in cc (no)
logged_course content script (timed most) x e some = let no : IsSome {T = List ℕ} None = some in cc (no)
logged_course content script (run most) x e some = let no : IsSome {T = List ℕ} None = some in cc (no)
logged_course content script (bench most number) x e some = let no : IsSome {T = List ℕ} None = some in cc (no)
logged_course content script (replay log) x e some = log_is_told _ x e

loaded_task : (content : List ℕ → Option (List ℕ)) (line : Line) → AreWithinLimits content line → IfSome (task_of content line) (λ task. IsLoadedTask line.work task)
loaded_task content line within =
    task_is (λ task. IsLoadedTask line.work task) (content line.names.script) (content line.names.file_a) (content line.names.file_b) (λ script. course_of content script line.work)
    (within input.FileA) (within input.FileB)
    (λ text script file_a file_b x e few_a few_b is. record {
      ranges = read_has_ranges text script e;
      small_a = few_a;
      small_b = few_b;
      logged = logged_course content script line.work x is;
    })

-- What is known of such scripts: of a connection whose actors made fewer than 2^57 steps each, in whatever order the steps of a round came.
record IsPromise (bound : Bound) : Type 0 where
  finish : (script : Script) (file_a file_b : List ℕ) (least : ℕ) (turns : List Turn) → HasRanges script → bound script (length file_a) (length file_b) ≡ Some least
      → length file_a ≤ 16777216 → length file_b ≤ 16777216 → AreLawful octets turns (opened_world (start_of script file_a file_b))
      → HasFewNotes (world_run octets turns (opened_world (start_of script file_a file_b))) → least ≤ rounds_in turns
      → outcome_of (world_run octets turns (opened_world (start_of script file_a file_b))).crew ≡ outcome.Delivered
  go_on : (script : Script) (file_a file_b : List ℕ) (least : ℕ) (turns : List Turn) → HasRanges script → bound script (length file_a) (length file_b) ≡ Some least
      → length file_a ≤ 16777216 → length file_b ≤ 16777216 → AreLawful octets turns (opened_world (start_of script file_a file_b))
      → HasFewNotes (world_run octets turns (opened_world (start_of script file_a file_b)))
      → (outcome_of (world_run octets turns (opened_world (start_of script file_a file_b))).crew ≡ outcome.Going)
      ⊎ (outcome_of (world_run octets turns (opened_world (start_of script file_a file_b))).crew ≡ outcome.Delivered)

module _ (bound : Bound) (promise : IsPromise bound) where
  delivers : (work : Work) (task : Task) → IsLoadedTask work task → HasRoundsBy bound task → (turns : List Turn) → AreTurnsOf task.course turns (first_world task)
      → HasFewNotes (world_after task turns) → outcome_of (world_after task turns).crew ≡ outcome.Delivered
  delivers work task loaded rounded turns are few = by (bound task.script (length task.file_a) (length task.file_b)) refl rounded
    where
      by : (o : Option ℕ) → bound task.script (length task.file_a) (length task.file_b) ≡ o → IsSomeAnd o (λ least. AsksRounds least task.course)
          → outcome_of (world_after task turns).crew ≡ outcome.Delivered
      by None e asks = absurd asks
      by (Some least) e asks =
          let lawful = course_lawful task.course turns (first_world task) are in
          ⊎_elim
          (λ going. promise.finish task.script task.file_a task.file_b least turns loaded.ranges e loaded.small_a loaded.small_b lawful few
          (asked_made task.course least turns (first_world task) asks are (ap goes_on going)))
          (λ there. there)
          (promise.go_on task.script task.file_a task.file_b least turns loaded.ranges e loaded.small_a loaded.small_b lawful few)

  -- ---- an answer

  module _ (line : Line) (old new : Told) where
    abbrev Row : Status → Type 0
    Row status = EndRow line old new status

    module _ (within : AreWithinLimits old.content line) (known : IsSomeAnd (task_of old.content line) (HasRoundsBy bound)) where
      row_delivers : (status : Status) → Row status → status ≡ Delivered
      row_delivers status row = by (task_of old.content line) row.run known (loaded_task old.content line within)
        where
          by : (o : Option Task) → IfSome o (λ task. HasRun task status row.puts old.holds new.holds) → IsSomeAnd o (HasRoundsBy bound)
              → IfSome o (λ task. IsLoadedTask line.work task) → status ≡ Delivered
          by None ran rounded loaded = absurd rounded
          by (Some task) ran rounded loaded = ran.whole.status_is ∙ ap status_of (delivers line.work task loaded rounded ran.whole.turns ran.whole.are ran.whole.few)

      ended_delivers : (status : Status) → IsAnswer line old new status → HasEnded status → status ≡ Delivered
      ended_delivers Delivered answer ended = refl
      ended_delivers Rounds answer ended = row_delivers Rounds answer
      ended_delivers NoPath answer ended = row_delivers NoPath answer
      ended_delivers (Aborted reader) answer ended = row_delivers (Aborted reader) answer
      ended_delivers Usage answer ended = absurd ended
      ended_delivers (BadScript at kind) answer ended = absurd ended
      ended_delivers (Load named) answer ended = absurd ended
      ended_delivers (Put port) answer ended = absurd ended
      ended_delivers (TooLong named) answer ended = absurd ended
      ended_delivers Memory answer ended = absurd ended
      ended_delivers (Log at) answer ended = absurd ended

      unlogged : IsSome (order_of line.work) → ⊥
      unlogged some = by (task_of old.content line) known (loaded_task old.content line within)
        where
          asked : (task : Task) → IsLoadedTask line.work task → (o : Option ℕ) → IsSomeAnd o (λ least. AsksRounds least task.course) → ⊥
          asked task loaded None asks = asks
          asked task loaded (Some least) asks = loaded.logged some least asks

          by : (o : Option Task) → IsSomeAnd o (HasRoundsBy bound) → IfSome o (λ task. IsLoadedTask line.work task) → ⊥
          by None rounded loaded = rounded
          by (Some task) rounded loaded = asked task loaded (bound task.script (length task.file_a) (length task.file_b)) rounded

  known_runs_deliver : (line : Line) (old new : Told) (status : Status) → IsAnswer line old new status → DeliversBy bound line old new status
  known_runs_deliver line old new status answer valid known loads_fine ports_fine =
      by (valid_inputs_are_run line old new status answer valid loads_fine ports_fine)
    where
      by : HasEnded status ⊎ ((status ≡ Memory) ⊎ ((at : ℕ) × ((status ≡ Log at) × IsSome (order_of line.work)))) → (status ≡ Delivered) ⊎ (status ≡ Memory)
      by (inl ended) = inl (ended_delivers line old new valid.within known status answer ended)
      by (inr (inl memory)) = inr memory
      by (inr (inr log)) = absurd (unlogged line old new valid.within known log.1.1)

-- ---- a clean script

clean_promise : IsPromise enough
clean_promise = record {
  finish = λ script file_a file_b least turns ranges is small_a small_b lawful few many. clean_scripts_finish script file_a file_b least turns ranges is small_a small_b lawful many;
  go_on = λ script file_a file_b least turns ranges is small_a small_b lawful few. clean_scripts_go_on script file_a file_b least turns ranges is small_a small_b lawful;
}

pub clean_runs_deliver : CleanRunsDeliver
clean_runs_deliver = known_runs_deliver enough clean_promise

-- ---- one by whose text few segments are lost

all_parts : (p q : ScriptLine → Bool) (lines : List ScriptLine) → list_all (λ line. p line && q line) lines ≡ true → (list_all p lines ≡ true) × (list_all q lines ≡ true)
all_parts p q [] all = (refl, refl)
all_parts p q (line ∷ lines) all =
    let both = and_parts (p line && q line) (list_all (λ other. p other && q other) lines) all in
    let one = and_parts (p line) (q line) both.0 in
    let rest = all_parts p q lines both.1 in
    (and_from (p line) (list_all p lines) one.0 rest.0, and_from (q line) (list_all q lines) one.1 rest.1)

harmless_is_mild : (line : ScriptLine) → is_harmless_to_ends line ≡ true → is_mild line ≡ true
harmless_is_mild (Die path tick) is = refl
harmless_is_mild (Remove side id tick) is = refl
harmless_is_mild line is = is

all_mild : (lines : List ScriptLine) → list_all is_harmless_to_ends lines ≡ true → list_all is_mild lines ≡ true
all_mild [] all = refl
all_mild (line ∷ lines) all =
    let parts = and_parts (is_harmless_to_ends line) (list_all is_harmless_to_ends lines) all in
    and_from (is_mild line) (list_all is_mild lines) (harmless_is_mild line parts.0) (all_mild lines parts.1)

fits_so : (script : Script) (file_a file_b : List ℕ) → fits_first script.buffer (length file_a) ≡ true → FitsFirstWindow (start_of script file_a file_b) A
fits_so script file_a file_b is =
    let parts = and_parts (nat_le (length file_a + 3) script.buffer) (nat_le (length file_a + 1) 65535) is in
    record { buffer = leb-true (length file_a + 3) script.buffer parts.0; syn = leb-true (length file_a + 1) 65535 parts.1 }

early_so : (script : Script) (file_a file_b : List ℕ) → moves_none_of_a script.lines || fits_first script.buffer (length file_a) ≡ true
    → MovesNoneOfFirst 8 script.lines ⊎ FitsFirstWindow (start_of script file_a file_b) A
early_so script file_a file_b is = by (moves_none_of_a script.lines) refl is
  where
    by : (b : Bool) → moves_none_of_a script.lines ≡ b → b || fits_first script.buffer (length file_a) ≡ true → MovesNoneOfFirst 8 script.lines ⊎ FitsFirstWindow (start_of script file_a file_b) A
    by true none either = inl none
    by false some fits = inr (fits_so script file_a file_b fits)

same_rounds : (turns : List Turn) → whole_rounds turns ≡ rounds_in turns
same_rounds [] = refl
same_rounds (Turn.Step actor ∷ turns) = same_rounds turns
same_rounds (Turn.Round ∷ turns) = ap suc (same_rounds turns)

-- what the text says
record IsFew (script : Script) (file_a file_b : List ℕ) (least : ℕ) : Type 0 where
  path : PathLine
  loses : LosesFew script path file_a file_b
  least_is : least ≡ patience script path file_a file_b (harms_to 0 script + early_by_text script path file_a)

few_so : (script : Script) (file_a file_b : List ℕ) (least : ℕ) → HasRanges script → length file_a ≤ 16777216 → length file_b ≤ 16777216
    → few_enough script (length file_a) (length file_b) ≡ Some least → IsFew script file_a file_b least
few_so script file_a file_b least ranges small_a small_b is = by_paths script.paths refl is
  where
    by_test : (path : PathLine) → script.paths ≡ path ∷ [] → (b : Bool) → loses_few script (length file_a) ≡ b
        → (if b then Some (patient_rounds path.mss (length file_a) (length file_b) (harms_allowed path script (length file_a))) else None) ≡ Some least → IsFew script file_a file_b least
    by_test path one false none some = cc
    by_test path one true all some =
        let parts = and_parts (list_all is_gentle script.lines) _ all in
        let few = and_parts (nat_le (harms_to 0 script) 4) _ parts.1 in
        let lines = all_parts is_harmless_to_ends (λ line. not (is_on_direction line)) script.lines parts.0 in
        record {
          path = path;
          loses = record {
            mild = record { ranges = ranges; one = one; mild = all_mild script.lines lines.0; a = small_a; b = small_b };
            harmless = lines.0;
            directions = lines.1;
            few = leb-true (harms_to 0 script) 4 few.0;
            early = early_so script file_a file_b few.1;
          };
          least_is = sym (same_Some (patient_rounds path.mss (length file_a) (length file_b) (harms_allowed path script (length file_a))) least some);
        }

    by_paths : (paths : List PathLine) → script.paths ≡ paths → few_on paths script (length file_a) (length file_b) ≡ Some least → IsFew script file_a file_b least
    by_paths [] one some = cc
    by_paths (path ∷ []) one some = by_test path one (loses_few script (length file_a)) refl some
    by_paths (path ∷ other ∷ paths) one some = cc

few_promise : IsPromise few_enough
few_promise = record {
  finish = λ script file_a file_b least turns ranges is small_a small_b lawful few many.
      let text = few_so script file_a file_b least ranges small_a small_b is in
      few_texts_finish script text.path file_a file_b turns text.loses (few_steps_are_brief script text.path file_a file_b turns text.loses.mild.one lawful few) lawful
      (let same = same_rounds turns in let least_is = text.least_is in omega (arith, same, least_is, many));
  go_on = λ script file_a file_b least turns ranges is small_a small_b lawful few.
      let text = few_so script file_a file_b least ranges small_a small_b is in
      few_texts_go_on script text.path file_a file_b turns text.loses (few_steps_are_brief script text.path file_a file_b turns text.loses.mild.one lawful few) lawful;
}

pub few_runs_deliver : FewRunsDeliver
few_runs_deliver = known_runs_deliver few_enough few_promise

-- ---- either

either_so : (o p : Option ℕ) (least : ℕ) → or_else o p ≡ Some least → (o ≡ Some least) ⊎ (p ≡ Some least)
either_so None p least is = inr is
either_so (Some least_of) p least is = inl is

enough_promise : IsPromise rounds_enough
enough_promise = record {
  finish = λ script file_a file_b least turns ranges is small_a small_b lawful few many. ⊎_elim
      (λ clean. clean_promise.finish script file_a file_b least turns ranges clean small_a small_b lawful few many)
      (λ some. few_promise.finish script file_a file_b least turns ranges some small_a small_b lawful few many)
      (either_so (enough script (length file_a) (length file_b)) (few_enough script (length file_a) (length file_b)) least is);
  go_on = λ script file_a file_b least turns ranges is small_a small_b lawful few. ⊎_elim
      (λ clean. clean_promise.go_on script file_a file_b least turns ranges clean small_a small_b lawful few)
      (λ some. few_promise.go_on script file_a file_b least turns ranges some small_a small_b lawful few)
      (either_so (enough script (length file_a) (length file_b)) (few_enough script (length file_a) (length file_b)) least is);
}

pub enough_runs_deliver : EnoughRunsDeliver
enough_runs_deliver = known_runs_deliver rounds_enough enough_promise

-- ---- where the words ask for a run

pub clean_if_asked : (old new : Told) (asked : Option Line) (status : Status) → IfSome asked (λ line. IsAnswer line old new status) → IfSome asked (λ line. DeliversIfClean line old new status)
clean_if_asked old new None status answer = tt
clean_if_asked old new (Some line) status answer =
    clean_runs_deliver line old new status answer

pub few_if_asked : (old new : Told) (asked : Option Line) (status : Status) → IfSome asked (λ line. IsAnswer line old new status) → IfSome asked (λ line. DeliversIfFew line old new status)
few_if_asked old new None status answer = tt
few_if_asked old new (Some line) status answer =
    few_runs_deliver line old new status answer
