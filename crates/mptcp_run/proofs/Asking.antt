-- What the words ask for, and what stands at each answer to them.
use Rattle.std.proofs.Common.{◌≡◌, refl, sym, ap, subst, ℕ, ◌≤◌, inl, inr, List, Option, Some, None, IfSome}
use Rattle.std.specs.Prelude.{option_and_then}
use Rattle.outside_kit.specs.Outside.{Told}
use Rattle.run_words.specs.Lines.{Line, bench, line_of}
use Rattle.run_outside.specs.declared.status.Status.{Status}
use Rattle.run_outside.specs.declared.status.Status.TheVariants.{Delivered, Usage, Memory}
use Rattle.mptcp_run.specs.Answers.{IsAnswer, IsMadeAnswer, NothingWasRun}
use Rattle.mptcp_run.specs.Asked.{asked_in, if_run}
use Rattle.mptcp_run.specs.Made.{Bench, made_task, bench_by, bench_of, bench_in}
use Rattle.run_outside.specs.Causes.{IsWordsFault}
use Rattle.run_outside.specs.Plan.{loads_of}
use Rattle.mptcp_run.specs.Promised.{NoneIsAltered, ReadersHaveAsMany, ReadersHaveFiles}
use Rattle.mptcp_run.specs.declared.schedule.Schedule.TheVariants.{Serial}
use Rattle.mptcp_run.specs.Task.{first_world}
use Rattle.mptcp_run.proofs.Answering.{made_cut_answer}
use Rattle.run_outside.proofs.Calls.{adds_none, cut_none}
use Rattle.mptcp_run.proofs.MadeTasks.{made_is_plain, of_words, made_is_unstopped}
use Rattle.mptcp_run.proofs.Courses.{no_round}
use Rattle.mptcp_run.proofs.Performing.{nothing_made}

pub asked_is : (words : List (List ℕ)) (line : Line) → line_of words ≡ Some line → asked_in words ≡ if_run line
unfolding asked_in
asked_is words line is = ap (option_and_then if_run) is

-- where they ask for the made input
pub bench_is : (words : List (List ℕ)) (line : Line) → line_of words ≡ Some line → bench_in words ≡ bench_of line
unfolding bench_in
bench_is words line is = ap (option_and_then bench_of) is

pub bench_nothing : (words : List (List ℕ)) → line_of words ≡ None → bench_in words ≡ None
unfolding bench_in
bench_nothing words is = ap (option_and_then bench_of) is

pub asks_nothing : (words : List (List ℕ)) → line_of words ≡ None → asked_in words ≡ None
unfolding asked_in
asks_nothing words is = ap (option_and_then if_run) is

-- status 0
pub delivered_files : (old new : Told) (asked : Option Line) (status : Status) → IfSome asked (λ line. IsAnswer line old new status)
    → status ≡ Delivered → IfSome asked (λ line. NoneIsAltered old.content line → ReadersHaveFiles (old.content line.names.file_a) (old.content line.names.file_b) old.holds new.holds)
delivered_files old new None status a is = tt
delivered_files old new (Some line) status a is = (subst (λ st. IsAnswer line old new st) is a).files

pub delivered_many : (old new : Told) (asked : Option Line) (status : Status) → IfSome asked (λ line. IsAnswer line old new status)
    → status ≡ Delivered → IfSome asked (λ line. ReadersHaveAsMany (old.content line.names.file_a) (old.content line.names.file_b) old.holds new.holds)
delivered_many old new None status a is = tt
delivered_many old new (Some line) status a is = (subst (λ st. IsAnswer line old new st) is a).many

-- ---- nothing was done

module _ (a : Told) where
  pub nothing_asked : NothingWasRun a a Usage
  nothing_asked = record { answer = inl refl; untouched = λ p. (refl, refl); unloaded = refl; calls = adds_none a.calls }

  pub nothing_read : NothingWasRun a a Memory
  nothing_read = record { answer = inr refl; untouched = λ p. (refl, refl); unloaded = refl; calls = adds_none a.calls }

  -- for want of memory
  pub asked_memory : (asked : Option Line)
      → IfSome asked (λ line. IsAnswer line a a Memory)
  asked_memory None = tt
  asked_memory (Some line) =
      inl (record { untouched = λ p. (refl, refl); calls = cut_none (loads_of line) Memory a.calls a.calls refl (adds_none a.calls) })

  pub made_memory : (line : Line) (number most : ℕ) → number ≤ 256
      → IsMadeAnswer (record { line = line; task = made_task number most }) a a Memory
  made_memory line number most few =
      made_cut_answer (record { line = line; task = made_task number most }) (made_is_plain number most few) (made_is_unstopped number) a a refl Memory tt
      (nothing_made line (made_task number most) a (no_round Serial most (first_world (made_task number most))))

  pub words_memory : (words : List (List ℕ)) → IfSome (bench_in words) (λ made. IsMadeAnswer made a a Memory)
  words_memory words = of_words (λ made. IsMadeAnswer made a a Memory) made_memory words

  -- words that weren't read
  pub unread_answer : (words : List (List ℕ)) (status : Status) → IsWordsFault words status
      → IfSome (asked_in words) (λ line. IsAnswer line a a status)
  unread_answer words Usage is = subst
      (λ (o : Option Line). IfSome o (λ line. IsAnswer line a a Usage)) (sym (asks_nothing words is)) tt
  unread_answer words Memory is = asked_memory (asked_in words)
  unread_answer words _ is = absurd is

  pub unread_bench : (words : List (List ℕ)) (status : Status) → IsWordsFault words status
      → IfSome (bench_in words) (λ made. IsMadeAnswer made a a status)
  unread_bench words Usage is = subst
      (λ (o : Option Bench). IfSome o (λ made. IsMadeAnswer made a a Usage)) (sym (bench_nothing words is)) tt
  unread_bench words Memory is = words_memory words
  unread_bench words _ is = absurd is

  pub unread : (words : List (List ℕ)) (status : Status) → IsWordsFault words status → NothingWasRun a a status
  unread words Usage is = nothing_asked
  unread words Memory is = nothing_read
  unread words _ is = absurd is

-- what a line that asks for `bench` is to do
pub made_by_work : (line : Line) (most number : ℕ) (P : Bench → Type 0) → line.work ≡ bench most number → P (record { line = line; task = made_task number most })
    → IfSome (bench_of line) P
made_by_work line most number P is p = subst (λ w. IfSome (bench_by w line) P) (sym is) p
