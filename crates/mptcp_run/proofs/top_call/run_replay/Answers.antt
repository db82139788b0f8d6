use Rattle.std.proofs.Common.{refl, sym, subst, arith}
use Rattle.world_core.specs.Logged.{all_turns}
use Rattle.run_words.specs.Lines.{as_line}
use Rattle.run_outside.specs.declared.status.Status.{Status}
use Rattle.mptcp_run.specs.Answers.{IsAnswer}
use Rattle.mptcp_run.specs.Task.{Task, task_from}
use Rattle.mptcp_run.specs.Task as course
use Rattle.mptcp_run.proofs.Answering.{replay_task, replay_order, end_from, replay_from, replay_input_answer, end_answer, replay_answer, either_way}
use Rattle.mptcp_run.proofs.PlainTasks.{as_turns, short_input}
use Rattle.mptcp_run.proofs.Starting.{cause_after}
use Rattle.mptcp_run.proofs.top_call.run_replay.Goals as goal

pub perform-requires-clause-ranges : goal.perform-requires-clause-ranges
perform-requires-clause-ranges g c = c.in-Ok.ensures.loaded.ranges

pub returns-in-Err : goal.returns-in-Err
returns-in-Err g c =
    let cut = c.in-Err.ensures in
    replay_input_answer (as_line c.args.line.now) (g.O.Outside.told c.args.outside.now) (g.O.Outside.told c.load_replay.new.outside) c.args.order.now c.in-Err.status c.requires
    c.load_replay.ensures.loads.untouched cut.fault cut.calls_cut

pub returns : goal.returns
returns g c =
    let old = g.O.Outside.told c.args.outside.now in let middle = g.O.Outside.told c.load_replay.new.outside in let new = g.O.Outside.told c.perform.new.outside in
    let content = old.content in let line = as_line c.args.line.now in let read = c.in-Ok.ensures in let replay = c.in-Ok.replay in
    let task : Task = task_from replay.input (course.told (all_turns replay.turns.items)) in
    let known = replay_task content line c.args.order.now replay.turns.items replay.input c.requires read.script read.file_a read.file_b read.turns in
    let order = replay_order content line c.args.order.now replay.turns.items replay.input.script c.requires read.script read.turns in
    subst (λ (status : Status). IsAnswer line old new status) (sym c.ended.ensures)
    (either_way (λ status. IsAnswer line old new status) c.perform.result c.perform.ensures.ended c.perform.ensures.fault c.perform.ensures.early
    (λ status whole. end_answer line old new task known (short_input _ read.loaded) read.file_a read.file_b read.within read.script order
    refl (as_turns _ read.ends) (as_turns _ read.ends) status
    (end_from old middle new (λ p. (read.loads.untouched p).0) line task read.loads.made status whole))
    (λ status fault early. replay_answer line old new task known (short_input _ read.loaded) read.file_a read.file_b read.within read.script order
    c.args.order.now replay.lines c.requires read.lines status
    (cause_after old.port_faults middle.port_faults new.port_faults status (λ p. let same = (read.loads.untouched p).1 in omega (arith, same)) fault)
    (replay_from old middle new (λ p. (read.loads.untouched p).0) line task read.loads.made replay.lines status early)))
