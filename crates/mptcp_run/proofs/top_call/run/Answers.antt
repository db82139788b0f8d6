use Rattle.std.proofs.Common.{sym, subst, map, string_bytes, IfSome, IsNone, Option}
use Rattle.run_words.specs.Lines.{Line, as_line}
use Rattle.mptcp_run.specs.Answers.{IsAnswer, IsMadeAnswer}
use Rattle.mptcp_run.specs.Asked.{asked_in}
use Rattle.mptcp_run.specs.Made.{Bench}
use Rattle.mptcp_run.proofs.AskedRounds.{line_asked}
use Rattle.mptcp_run.proofs.CleanRuns.{clean_if_asked, few_if_asked}
use Rattle.mptcp_run.proofs.Asking.{asked_is, bench_is, delivered_files, delivered_many, unread_answer, unread_bench, unread}
use Rattle.mptcp_run.proofs.top_call.run.Goals as goal

pub run_line-requires-clause-in_range : goal.run_line-requires-clause-in_range
run_line-requires-clause-in_range g c κs lives = line_asked (map string_bytes c.args.words.now) (as_line c.in-Ok.line) c.in-Ok.ensures.line

-- ---- a line that was read

pub returns-in-Ok-clause-answer : goal.returns-in-Ok-clause-answer
returns-in-Ok-clause-answer g c =
    subst (λ (o : Option Line). IfSome o (λ line. IsAnswer line (g.O.Outside.told c.args.outside.now) (g.O.Outside.told c.run_line.new.outside) c.run_line.result))
    (sym (asked_is (map string_bytes c.args.words.now) (as_line c.in-Ok.line) c.in-Ok.ensures.line)) c.run_line.ensures.answer

pub returns-in-Ok-clause-delivered : goal.returns-in-Ok-clause-delivered
returns-in-Ok-clause-delivered g c is =
    delivered_files (g.O.Outside.told c.args.outside.now) (g.O.Outside.told c.run_line.new.outside) (asked_in (map string_bytes c.args.words.now)) c.run_line.result
    (returns-in-Ok-clause-answer g c) is

pub returns-in-Ok-clause-counted : goal.returns-in-Ok-clause-counted
returns-in-Ok-clause-counted g c is =
    delivered_many (g.O.Outside.told c.args.outside.now) (g.O.Outside.told c.run_line.new.outside) (asked_in (map string_bytes c.args.words.now)) c.run_line.result
    (returns-in-Ok-clause-answer g c) is

pub returns-in-Ok-clause-clean : goal.returns-in-Ok-clause-clean
returns-in-Ok-clause-clean g c =
    clean_if_asked (g.O.Outside.told c.args.outside.now) (g.O.Outside.told c.run_line.new.outside) (asked_in (map string_bytes c.args.words.now)) c.run_line.result
    (returns-in-Ok-clause-answer g c)

pub returns-in-Ok-clause-few : goal.returns-in-Ok-clause-few
returns-in-Ok-clause-few g c =
    few_if_asked (g.O.Outside.told c.args.outside.now) (g.O.Outside.told c.run_line.new.outside) (asked_in (map string_bytes c.args.words.now)) c.run_line.result
    (returns-in-Ok-clause-answer g c)

pub returns-in-Ok-clause-bench : goal.returns-in-Ok-clause-bench
returns-in-Ok-clause-bench g c =
    subst (λ (o : Option Bench). IfSome o (λ made. IsMadeAnswer made (g.O.Outside.told c.args.outside.now) (g.O.Outside.told c.run_line.new.outside) c.run_line.result))
    (sym (bench_is (map string_bytes c.args.words.now) (as_line c.in-Ok.line) c.in-Ok.ensures.line)) c.run_line.ensures.bench

pub returns-in-Ok-clause-neither : goal.returns-in-Ok-clause-neither
returns-in-Ok-clause-neither g c none unmade =
    c.run_line.ensures.neither (subst (λ (o : Option Line). IsNone o) (asked_is (map string_bytes c.args.words.now) (as_line c.in-Ok.line) c.in-Ok.ensures.line) none)
    (subst (λ (o : Option Bench). IsNone o) (bench_is (map string_bytes c.args.words.now) (as_line c.in-Ok.line) c.in-Ok.ensures.line) unmade)

-- ---- words that weren't read

pub returns-in-Err-clause-answer : goal.returns-in-Err-clause-answer
returns-in-Err-clause-answer g c =
    unread_answer (g.O.Outside.told c.args.outside.now)
    (map string_bytes c.args.words.now) c.in-Err.status c.in-Err.ensures.fault

pub returns-in-Err-clause-delivered : goal.returns-in-Err-clause-delivered
returns-in-Err-clause-delivered g c is =
    delivered_files (g.O.Outside.told c.args.outside.now) (g.O.Outside.told c.args.outside.now) (asked_in (map string_bytes c.args.words.now)) c.in-Err.status
    (returns-in-Err-clause-answer g c) is

pub returns-in-Err-clause-counted : goal.returns-in-Err-clause-counted
returns-in-Err-clause-counted g c is =
    delivered_many (g.O.Outside.told c.args.outside.now) (g.O.Outside.told c.args.outside.now) (asked_in (map string_bytes c.args.words.now)) c.in-Err.status
    (returns-in-Err-clause-answer g c) is

pub returns-in-Err-clause-clean : goal.returns-in-Err-clause-clean
returns-in-Err-clause-clean g c =
    clean_if_asked (g.O.Outside.told c.args.outside.now) (g.O.Outside.told c.args.outside.now) (asked_in (map string_bytes c.args.words.now)) c.in-Err.status
    (returns-in-Err-clause-answer g c)

pub returns-in-Err-clause-few : goal.returns-in-Err-clause-few
returns-in-Err-clause-few g c =
    few_if_asked (g.O.Outside.told c.args.outside.now) (g.O.Outside.told c.args.outside.now) (asked_in (map string_bytes c.args.words.now)) c.in-Err.status
    (returns-in-Err-clause-answer g c)

pub returns-in-Err-clause-bench : goal.returns-in-Err-clause-bench
returns-in-Err-clause-bench g c =
    unread_bench (g.O.Outside.told c.args.outside.now)
    (map string_bytes c.args.words.now) c.in-Err.status c.in-Err.ensures.fault

pub returns-in-Err-clause-neither : goal.returns-in-Err-clause-neither
returns-in-Err-clause-neither g c none unmade =
    unread (g.O.Outside.told c.args.outside.now)
    (map string_bytes c.args.words.now) c.in-Err.status c.in-Err.ensures.fault
