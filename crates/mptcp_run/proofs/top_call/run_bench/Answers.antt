use Rattle.std.proofs.Common.{sym, subst, []}
use Rattle.run_words.specs.Lines.{Work, as_line}
use Rattle.run_outside.specs.declared.status.Status.{Status}
use Rattle.mptcp_run.specs.Answers.{IsMadeAnswer}
use Rattle.mptcp_run.specs.Asked.{AsksInRange}
use Rattle.mptcp_run.specs.Ends.{CameToEnd, IsCut}
use Rattle.mptcp_run.specs.Made.{Bench, made_task}
use Rattle.mptcp_run.specs.Task.{Task}
use Rattle.mptcp_run.proofs.Answering.{made_end_answer, made_cut_answer, either_way}
use Rattle.mptcp_run.proofs.Asking.{made_by_work, made_memory}
use Rattle.mptcp_run.proofs.MadeTasks.{made_with, made_is_plain, made_is_unstopped}
use Rattle.mptcp_run.proofs.top_call.run_bench.Goals as goal

pub returns-in_default : goal.returns-in_default
returns-in_default g c =
    let line = as_line c.args.line.now in
    made_by_work line c.args.rounds c.args.number _ c.requires.asked
    (made_memory (g.O.Outside.told c.args.outside.now)
    line c.args.number c.args.rounds (subst (λ (w : Work). AsksInRange w) c.requires.asked c.requires.in_range))

pub returns : goal.returns
returns g c =
    let old = g.O.Outside.told c.args.outside.now in let new = g.O.Outside.told c.perform.new.outside in
    let line = as_line c.args.line.now in let read = c.in-Ok.ensures in
    let made : Bench = record { line = line; task = made_task c.args.number c.args.rounds } in
    let plain = made_is_plain c.args.number c.args.rounds (subst (λ (w : Work). AsksInRange w) c.requires.asked c.requires.in_range) in
    let same = made_with c.in-Ok.input c.args.number c.args.rounds read.script read.file_a read.file_b in
    made_by_work line c.args.rounds c.args.number _ c.requires.asked
    (subst (λ (status : Status). IsMadeAnswer made old new status) (sym c.ended.ensures)
    (either_way (λ status. IsMadeAnswer made old new status) c.perform.result c.perform.ensures.ended c.perform.ensures.fault c.perform.ensures.early
    (λ status whole. made_end_answer made plain (made_is_unstopped c.args.number) old new c.perform.ensures.load_counts status tt
    (subst (λ (task : Task). CameToEnd [] line task old new status) same whole))
    (λ status fault cut. made_cut_answer made plain (made_is_unstopped c.args.number) old new c.perform.ensures.load_counts status fault
    (subst (λ (task : Task). IsCut [] line task old new status) same cut))))
