use Rattle.std.proofs.Common.{refl, sym, ◌∙◌, ap, subst, arith}
use Rattle.run_words.specs.Lines.{Work, as_line}
use Rattle.mptcp_run.specs.Answers.{IsAnswer}
use Rattle.mptcp_run.specs.Asked.{AsksInRange}
use Rattle.run_outside.specs.declared.status.Status.{Status}
use Rattle.run_outside.specs.Inputs.{order_of}
use Rattle.run_outside.specs.Plan.{AddsAll, first_loads}
use Rattle.mptcp_run.specs.Task.{Task, task_from}
use Rattle.mptcp_run.specs.Task as course
use Rattle.mptcp_run.proofs.PlainTasks.{short_input}
use Rattle.mptcp_run.proofs.Answering.{scheduled_task, scheduled_some, unordered, unordered_within, unordered_valid, end_from, cut_from, input_answer, end_answer, cut_answer, either_way}
use Rattle.run_outside.proofs.Loading.{unordered_loads}
use Rattle.run_outside.proofs.PortsLemmas.{fault_after}
use Rattle.mptcp_run.proofs.top_call.run_scheduled.Goals as goal

pub perform-requires-clause-ranges : goal.perform-requires-clause-ranges
perform-requires-clause-ranges g c = c.in-Ok.ensures.loaded.ranges

pub returns-in-Err : goal.returns-in-Err
returns-in-Err g c =
    let line = as_line c.args.line.now in let cut = c.in-Err.ensures in
    input_answer line (g.O.Outside.told c.args.outside.now) (g.O.Outside.told c.load_input.new.outside) (first_loads line) c.in-Err.status (ap order_of c.requires.asked ∙ unordered c.args.schedule c.args.rounds)
    c.load_input.ensures.loads.untouched cut.fault (unordered_loads line (ap order_of c.requires.asked ∙ unordered c.args.schedule c.args.rounds)) cut.calls_cut

pub returns : goal.returns
returns g c =
    let old = g.O.Outside.told c.args.outside.now in let middle = g.O.Outside.told c.load_input.new.outside in let new = g.O.Outside.told c.perform.new.outside in
    let content = old.content in let line = as_line c.args.line.now in let read = c.in-Ok.ensures in
    let none = ap order_of c.requires.asked ∙ unordered c.args.schedule c.args.rounds in
    let task : Task = task_from c.in-Ok.input (course.rounds c.args.schedule c.args.rounds) in
    let known = scheduled_task content line c.args.schedule c.args.rounds c.in-Ok.input c.requires.asked read.script read.file_a read.file_b in
    let made = subst (λ plan. AddsAll plan old.calls middle.calls) (unordered_loads line none) read.loads.made in
    subst (λ (status : Status). IsAnswer line old new status) (sym c.ended.ensures)
    (either_way (λ status. IsAnswer line old new status) c.perform.result c.perform.ensures.ended c.perform.ensures.fault c.perform.ensures.early
    (λ status whole. end_answer line old new task known (short_input _ read.loaded) read.file_a read.file_b
    (unordered_within content line none read.within) read.script (unordered_valid content line none)
    refl (scheduled_some c.args.schedule c.args.rounds (subst (λ (w : Work). AsksInRange w) c.requires.asked c.requires.in_range)) tt status
    (end_from old middle new (λ p. (read.loads.untouched p).0) line task made status whole))
    (λ status fault cut. cut_answer line old new task known (short_input _ read.loaded) read.file_a read.file_b
    (unordered_within content line none read.within) read.script (unordered_valid content line none) status
    (fault_after old.port_faults middle.port_faults new.port_faults status (λ p. let same = (read.loads.untouched p).1 in omega (arith, same)) fault)
    (cut_from old middle new (λ p. (read.loads.untouched p).0) line task made status cut)))
