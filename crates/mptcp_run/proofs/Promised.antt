-- The readers' ports hold prefixes of the files.
use Rattle.std.proofs.Common.{◌≡◌, refl, sym, ◌∙◌, ap, subst, ℕ, ◌+◌, inl, inr, ◌⊎◌, Bool, true, false, ◌&&◌, List, [], ◌∷◌, ◌++◌, length, length-append, Option, Some, None, arith}
use Rattle.std.specs.Prelude.{IsSomeAnd}
use Rattle.std.proofs.lemmas.List.{append_assoc, append-nil}
use Rattle.outside_kit.specs.Outside.{HoldsAfter}
use Rattle.sides.specs.declared.side.Side.TheVariants.{A, B}
use Rattle.octet_text.specs.Prefix.{IsPrefix}
use Rattle.path_core.specs.Octets.{octets}
use Rattle.world_laws.specs.AbortCause.{PeerStopped}
use Rattle.world_laws.specs.Openings.{start_of}
use Rattle.world_laws.specs.Outcomes.{outcome_by, outcome_of, output_of, tells_abort, tells_end, was_told, notes_of}
use Rattle.world_laws.specs.Worlds.{Turn, world_step, end_round, world_run}
use Rattle.world_laws.specs.PlainScripts.{AltersNone}
use Rattle.world_laws.proofs.Promises.OfScripts.{short_of, scripts_keep_anyway, checked_scripts_keep_octets, plain_scripts_keep_all_promises, scripts_are_shown_of_values}
use Rattle.world_laws.proofs.Rounds.DoneByTheEnd.{rounds_end_on_time, rounds_are_done}
use Rattle.world_laws.proofs.Worlds.CastLifting.{writes_the_files}
use Rattle.run_outside.specs.declared.status.Status.{Status}
use Rattle.run_outside.specs.declared.status.Status.TheVariants.{Delivered}
use Rattle.run_outside.specs.Ports.{HoldsWithin}
use Rattle.world_core.specs.RoundEnds.{round_ends, last_end}
use Rattle.mptcp_run.specs.Putting.{status_of, read_so_far, world_after}
use Rattle.mptcp_run.specs.Promised.{IsPlainTask, IsShortTask, IsAbortCaused, EndsWithRound, HoldsAsMany, HoldsPrefixOf, HoldsPrefixIfBound, HoldsWhatIsRight, ShortTasksAreKept, WholeRunsGivePrefixes, WholeRunsHaveCause, DeliveredRunsGiveAsMany, CheckedRunsAreRight, DeliveredRunsGiveFiles, StoppedRunsGivePrefixes, CutRunsGivePrefixes, LinesCutGivePrefixes}
use Rattle.mptcp_run.specs.Task.{Connection, Task, Course, rounds, threads, told, first_world, AreTurnsOf}
use Rattle.mptcp_run.proofs.RoundsWoven.{woven_to_the_end}
use Rattle.mptcp_run.proofs.BySchedule.{last_end_by}

-- ---- prefixes

prefix_of_prefix : (xs ys zs : List ℕ) → IsPrefix xs ys → IsPrefix ys zs → IsPrefix xs zs
prefix_of_prefix xs ys zs p q =
    record { rest = p.rest ++ q.rest; whole_is = q.whole_is ∙ ap (λ prefix. prefix ++ q.rest) p.whole_is ∙ append_assoc xs p.rest q.rest }

prefix_held : (old new : Option (List ℕ)) (text file : List ℕ) → HoldsAfter old new (λ _. text) → IsPrefix text file → HoldsPrefixOf old new file
prefix_held None new text file holds part = tt
prefix_held (Some held) new text file holds part = subst (λ (o : Option (List ℕ)). IsSomeAnd o (λ text. IsPrefix text file)) (sym holds) part

many_held : (old new : Option (List ℕ)) (text file : List ℕ) → HoldsAfter old new (λ _. text) → length text ≡ length file → HoldsAsMany old new file
many_held None new text file holds many = tt
many_held (Some held) new text file holds many = subst (λ (o : Option (List ℕ)). IsSomeAnd o (λ text. length text ≡ length file)) (sym holds) many

file_held : (old new : Option (List ℕ)) (text file : List ℕ) → HoldsAfter old new (λ _. text) → text ≡ file → HoldsAfter old new (λ _. file)
file_held None new text file holds is = tt
file_held (Some held) new text file holds is = holds ∙ ap (λ xs. Some xs) is

cut_held : (unbegun : Type 0) (old new : Option (List ℕ)) (low high file : List ℕ) → HoldsWithin unbegun old new low high → IsPrefix high file
    → HoldsPrefixIfBound old new file
cut_held unbegun None new low high file holds part = tt
cut_held unbegun (Some held) new low high file (inl before) part = inl before.1
cut_held unbegun (Some held) new low high file (inr (text, both)) part =
    inr (subst (λ (o : Option (List ℕ)). IsSomeAnd o (λ text. IsPrefix text file)) (sym both.0) (prefix_of_prefix text high file both.1.most part))

-- ---- the last round's end

-- the world at the last round's end is the connection after some turns
last_end_after : (turns : List Turn) (w first : Connection) → (last_end first (round_ends turns w) ≡ first)
    ⊎ ((prefix : List Turn) × (last_end first (round_ends turns w) ≡ world_run octets prefix w))
last_end_after [] w first = inl refl
last_end_after (Turn.Step actor ∷ turns) w first = by (last_end_after turns (world_step octets actor w) first)
  where
    by : (last_end first (round_ends turns (world_step octets actor w)) ≡ first)
        ⊎ ((prefix : List Turn) × (last_end first (round_ends turns (world_step octets actor w)) ≡ world_run octets prefix (world_step octets actor w)))
        → (last_end first (round_ends turns (world_step octets actor w)) ≡ first)
        ⊎ ((prefix : List Turn) × (last_end first (round_ends turns (world_step octets actor w)) ≡ world_run octets prefix w))
    by (inl is) = inl is
    by (inr (prefix, is)) = inr (Turn.Step actor ∷ prefix, is)
last_end_after (Turn.Round ∷ turns) w first = by (last_end_after turns (end_round w) (end_round w))
  where
    by : (last_end (end_round w) (round_ends turns (end_round w)) ≡ end_round w)
        ⊎ ((prefix : List Turn) × (last_end (end_round w) (round_ends turns (end_round w)) ≡ world_run octets prefix (end_round w)))
        → (last_end (end_round w) (round_ends turns (end_round w)) ≡ first)
        ⊎ ((prefix : List Turn) × (last_end (end_round w) (round_ends turns (end_round w)) ≡ world_run octets prefix w))
    by (inl is) = inr (Turn.Round ∷ [], is)
    by (inr (prefix, is)) = inr (Turn.Round ∷ prefix, is)

-- where the last turn is the end of a round, it is the connection after all turns
last_end_at_round : (prefix : List Turn) (w first : Connection)
    → last_end first (round_ends (prefix ++ Turn.Round ∷ []) w) ≡ world_run octets (prefix ++ Turn.Round ∷ []) w
last_end_at_round [] w first = refl
last_end_at_round (Turn.Step actor ∷ prefix) w first = last_end_at_round prefix (world_step octets actor w) first
last_end_at_round (Turn.Round ∷ prefix) w first = last_end_at_round prefix (end_round w) (end_round w)

pub last_end_of_course : (course : Course) (turns : List Turn) (w : Connection) → EndsWithRound course → AreTurnsOf course turns w
    → last_end w (round_ends turns w) ≡ world_run octets turns w
last_end_of_course (rounds schedule most) turns w ends are = last_end_by schedule most turns w are
last_end_of_course (threads most) turns w ends are = woven_to_the_end most turns w are
last_end_of_course (told order) turns w (prefix, order_is) are =
    subst (λ (ts : List Turn). last_end w (round_ends ts w) ≡ world_run octets ts w) (sym (are.0 ∙ order_is)) (last_end_at_round prefix w w)

-- ---- promises

-- where no line of its script alters a payload
pub plain_of : (task : Task) → IsShortTask task → AltersNone task.script → IsPlainTask task
plain_of task short none = record { ranges = short.ranges; unaltered = none; short_a = short.short_a; short_b = short.short_b }

pub short_tasks_are_kept : ShortTasksAreKept
short_tasks_are_kept task turns short = record {
  anyway = scripts_keep_anyway task.script task.file_a task.file_b turns short;
  checked = λ uses. checked_scripts_keep_octets task.script task.file_a task.file_b turns short uses;
  promises = λ none. plain_scripts_keep_all_promises task.script task.file_a task.file_b turns (plain_of task short none);
  files = writes_the_files octets (start_of task.script task.file_a task.file_b) turns;
  values = scripts_are_shown_of_values task.script task.file_a task.file_b turns short;
  on_time = rounds_end_on_time octets (start_of task.script task.file_a task.file_b) turns;
  done = rounds_are_done octets (start_of task.script task.file_a task.file_b) turns;
}

module _ (task : Task) (plain : IsPlainTask task) where
  kept_short : IsShortTask task
  kept_short = short_of task.script task.file_a task.file_b plain

  -- after turns
  b_reads_a_prefix : (turns : List Turn) → IsPrefix (output_of B (world_after task turns)) task.file_a
  b_reads_a_prefix turns =
      let kept = short_tasks_are_kept task turns kept_short in prefix_of_prefix _ _ task.file_a (kept.promises plain.unaltered).word.ab.prefix kept.files.a.prefix

  a_reads_a_prefix : (turns : List Turn) → IsPrefix (output_of A (world_after task turns)) task.file_b
  a_reads_a_prefix turns =
      let kept = short_tasks_are_kept task turns kept_short in prefix_of_prefix _ _ task.file_b (kept.promises plain.unaltered).word.ba.prefix kept.files.b.prefix

  -- at the last round's end
  module _ (P : Connection → Type 0) (always : (turns : List Turn) → P (world_after task turns)) where
    at_last_end : (turns : List Turn) → P (last_end (first_world task) (round_ends turns (first_world task)))
    at_last_end turns = by (last_end_after turns (first_world task) (first_world task))
      where
        by : (last_end (first_world task) (round_ends turns (first_world task)) ≡ first_world task)
            ⊎ ((prefix : List Turn) × (last_end (first_world task) (round_ends turns (first_world task)) ≡ world_run octets prefix (first_world task)))
            → P (last_end (first_world task) (round_ends turns (first_world task)))
        by (inl is) = subst P (sym is) (always [])
        by (inr (prefix, is)) = subst P (sym is) (always prefix)

  b_has_a_prefix : (turns : List Turn) → IsPrefix (read_so_far B task turns) task.file_a
  b_has_a_prefix = at_last_end (λ w. IsPrefix (output_of B w) task.file_a) b_reads_a_prefix

  a_has_a_prefix : (turns : List Turn) → IsPrefix (read_so_far A task turns) task.file_b
  a_has_a_prefix = at_last_end (λ w. IsPrefix (output_of A w) task.file_b) a_reads_a_prefix

pub whole_runs_give_prefixes : WholeRunsGivePrefixes
whole_runs_give_prefixes task status old new plain whole = record {
  read_by_b = prefix_held _ _ (read_so_far B task whole.turns) task.file_a whole.ports.read_by_b (b_has_a_prefix task plain whole.turns);
  read_by_a = prefix_held _ _ (read_so_far A task whole.turns) task.file_b whole.ports.read_by_a (a_has_a_prefix task plain whole.turns);
}

pub stopped_runs_give_prefixes : StoppedRunsGivePrefixes
stopped_runs_give_prefixes task opening line old new plain stopped = record {
  read_by_b = prefix_held _ _ (read_so_far B task stopped.before) task.file_a stopped.ports.read_by_b (b_has_a_prefix task plain stopped.before);
  read_by_a = prefix_held _ _ (read_so_far A task stopped.before) task.file_b stopped.ports.read_by_a (a_has_a_prefix task plain stopped.before);
}

pub cut_runs_give_prefixes : CutRunsGivePrefixes
cut_runs_give_prefixes task old new plain cut = record {
  read_by_b = cut_held _ _ _ (read_so_far B task cut.turns) (read_so_far B task (cut.turns ++ cut.more)) task.file_a cut.ports.read_by_b
      (b_has_a_prefix task plain (cut.turns ++ cut.more));
  read_by_a = cut_held _ _ _ (read_so_far A task cut.turns) (read_so_far A task (cut.turns ++ cut.more)) task.file_b cut.ports.read_by_a
      (a_has_a_prefix task plain (cut.turns ++ cut.more));
}

pub lines_cut_give_prefixes : LinesCutGivePrefixes
lines_cut_give_prefixes task turns old new plain ports = record {
  read_by_b = prefix_held _ _ (read_so_far B task turns) task.file_a ports.read_by_b (b_has_a_prefix task plain turns);
  read_by_a = prefix_held _ _ (read_so_far A task turns) task.file_b ports.read_by_a (a_has_a_prefix task plain turns);
}

-- ---- aborted

cause_of : (w : Connection) (aborted_a aborted_b delivered dead : Bool) → (aborted_a ≡ true → PeerStopped A w) → (aborted_b ≡ true → PeerStopped B w)
    → IsAbortCaused (status_of (outcome_by aborted_a aborted_b delivered dead)) w
cause_of w true b both dead at_a at_b = at_a refl
cause_of w false true both dead at_a at_b = at_b refl
cause_of w false false true dead at_a at_b = tt
cause_of w false false false true at_a at_b = tt
cause_of w false false false false at_a at_b = tt

pub whole_runs_have_cause : WholeRunsHaveCause
whole_runs_have_cause task status old new short whole =
    let w : Connection = world_after task whole.turns in
    let cause = (short_tasks_are_kept task whole.turns short).anyway.aborts in
    subst (λ s. IsAbortCaused s w) (sym whole.status_is)
    (cause_of w (was_told tells_abort (notes_of A w.crew)) (was_told tells_abort (notes_of B w.crew)) _ _ (cause A) (cause B))

-- ---- delivered

told_both : (aborted_a aborted_b delivered dead : Bool) → Delivered ≡ status_of (outcome_by aborted_a aborted_b delivered dead) → delivered ≡ true
told_both true b both dead is = cc
told_both false true both dead is = cc
told_both false false true dead is = refl
told_both false false false true is = cc
told_both false false false false is = cc

both_parts : (a b : Bool) → a && b ≡ true → (a ≡ true) × (b ≡ true)
both_parts true true is = (refl, refl)
both_parts true false is = cc
both_parts false b is = cc

module _ (task : Task) (short : IsShortTask task) (turns : List Turn) (is : Delivered ≡ status_of (outcome_of (world_after task turns).crew)) where
  were_told : (was_told tells_end (notes_of A (world_after task turns).crew) ≡ true) × (was_told tells_end (notes_of B (world_after task turns).crew) ≡ true)
  were_told = both_parts _ _ (told_both _ _ _ _ is)

  -- as many octets as the file has
  b_read_many : length (output_of B (world_after task turns)) ≡ length task.file_a
  b_read_many =
      let kept = short_tasks_are_kept task turns short in
      let told = kept.anyway.count.ab.told were_told.1 in
      told.1 ∙ ap (λ (xs : List ℕ). length xs) (kept.files.a.whole told.0)

  a_read_many : length (output_of A (world_after task turns)) ≡ length task.file_b
  a_read_many =
      let kept = short_tasks_are_kept task turns short in
      let told = kept.anyway.count.ba.told were_told.0 in
      told.1 ∙ ap (λ (xs : List ℕ). length xs) (kept.files.b.whole told.0)

-- a prefix of the file with as many octets is the file
whole_prefix : (text file : List ℕ) → IsPrefix text file → length text ≡ length file → text ≡ file
whole_prefix text file prefix many = by prefix.rest (prefix.whole_is) (few prefix.rest (ap (λ (xs : List ℕ). length xs) prefix.whole_is ∙ length-append text prefix.rest))
  where
    few : (rest : List ℕ) → length file ≡ length text + length rest → length rest ≡ 0
    few rest is = omega (arith, is, many)

    by : (rest : List ℕ) → file ≡ text ++ rest → length rest ≡ 0 → text ≡ file
    by [] is none = sym (append-nil text) ∙ sym is
    by (x ∷ rest) is none = absurd (omega (arith, none))

pub delivered_runs_give_as_many : DeliveredRunsGiveAsMany
delivered_runs_give_as_many task old new short ends whole =
    let last = last_end_of_course task.course whole.turns (first_world task) ends whole.are in
    record {
      read_by_b = many_held _ _ (read_so_far B task whole.turns) task.file_a whole.ports.read_by_b
          (ap (λ w. length (output_of B w)) last ∙ b_read_many task short whole.turns whole.status_is);
      read_by_a = many_held _ _ (read_so_far A task whole.turns) task.file_b whole.ports.read_by_a
          (ap (λ w. length (output_of A w)) last ∙ a_read_many task short whole.turns whole.status_is);
    }

pub delivered_runs_give_files : DeliveredRunsGiveFiles
delivered_runs_give_files task old new plain ends whole =
    let last = last_end_of_course task.course whole.turns (first_world task) ends whole.are in
    let short = kept_short task plain in
    record {
      read_by_b = file_held _ _ (read_so_far B task whole.turns) task.file_a whole.ports.read_by_b
          (ap (λ w. output_of B w) last ∙ whole_prefix _ task.file_a (b_reads_a_prefix task plain whole.turns) (b_read_many task short whole.turns whole.status_is));
      read_by_a = file_held _ _ (read_so_far A task whole.turns) task.file_b whole.ports.read_by_a
          (ap (λ w. output_of A w) last ∙ whole_prefix _ task.file_b (a_reads_a_prefix task plain whole.turns) (a_read_many task short whole.turns whole.status_is));
    }

-- ---- where mappings are checked

-- what a port holds, which is all that was read
right_held : (status : Status) (old new : Option (List ℕ)) (text file : List ℕ) → HoldsAfter old new (λ _. text) → IsPrefix text file → (status ≡ Delivered → length text ≡ length file)
    → HoldsWhatIsRight status old new file
right_held status old new text file holds prefix many = record {
  prefix = prefix_held old new text file holds prefix;
  whole = λ is. file_held old new text file holds (whole_prefix text file prefix (many is));
}

pub checked_runs_are_right : CheckedRunsAreRight
checked_runs_are_right task status old new short ends uses whole =
    let last = last_end_of_course task.course whole.turns (first_world task) ends whole.are in
    let kept = short_tasks_are_kept task whole.turns short in
    record {
      read_by_b = λ none.
          right_held status _ _ (read_so_far B task whole.turns) task.file_a whole.ports.read_by_b
          (subst (λ w. IsPrefix (output_of B w) task.file_a) (sym last) (prefix_of_prefix _ _ task.file_a ((kept.checked uses).prefix.0 none) kept.files.a.prefix))
          (λ is. ap (λ w. length (output_of B w)) last ∙ b_read_many task short whole.turns (sym is ∙ whole.status_is));
      read_by_a = λ none.
          right_held status _ _ (read_so_far A task whole.turns) task.file_b whole.ports.read_by_a
          (subst (λ w. IsPrefix (output_of A w) task.file_b) (sym last) (prefix_of_prefix _ _ task.file_b ((kept.checked uses).prefix.1 none) kept.files.b.prefix))
          (λ is. ap (λ w. length (output_of A w)) last ∙ a_read_many task short whole.turns (sym is ∙ whole.status_is));
    }
