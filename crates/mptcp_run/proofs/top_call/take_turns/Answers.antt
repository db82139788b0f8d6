use Rattle.std.proofs.Common.{◌∙◌, subst, List, arith}
use Rattle.std.proofs.lemmas.Result.{err_from_is_err_and}
use Rattle.world_core.specs.Logged.{all_turns}
use Rattle.outside_kit.specs.declared.port.Port.TheVariants.{ReadByA, ReadByB}
use Rattle.run_words.specs.Lines.{as_line}
use Rattle.run_log.specs.declared.turn.Turn.{Turn}
use Rattle.mptcp_run.specs.declared.report.Report.TheVariants as report
use Rattle.mptcp_run.specs.Courses.{CourseMade, LogStops}
use Rattle.mptcp_run.specs.Task.{Task, task_from, first_world}
use Rattle.mptcp_run.specs.Task as course
use Rattle.mptcp_run.proofs.Courses.{no_turn}
use Rattle.mptcp_run.proofs.Performing.{binds_short}
use Rattle.run_outside.proofs.PortsLemmas.{IfOk-and, IfErr-map, IfErr-three, fault_after, b_isnt_log, a_isnt_log}
use Rattle.mptcp_run.proofs.Starting.{opened_at, replay_done, replay_stops, replay_line_short, replay_is_cut, replay_cause, cause_after}
use Rattle.mptcp_run.proofs.top_call.take_turns.Goals as goal

pub make_turns-requires-clause-begins : goal.make_turns-requires-clause-begins
make_turns-requires-clause-begins g c = opened_at c.args.input.now report.Log c.args.run.now c.requires.opened

pub returns-in_err-bind_readers-clause-err : goal.returns-in_err-bind_readers-clause-err
returns-in_err-bind_readers-clause-err g c =
    let order = all_turns c.args.replay.now.turns.items in let task : Task = task_from c.args.input.now (course.told order) in
    let p = err_from_is_err_and c.from_residual.result c.from_residual.ensures.1 in
    rw (p.1, p.2) (replay_is_cut (as_line c.args.line.now) task c.args.replay.now.lines
    (g.O.Outside.told c.args.outside.now) (g.O.Outside.told c.bind_readers.new.outside)
    _ _ c.in_err-bind_readers.field-0.0 c.in_err-bind_readers.ensures.puts.fault
    (binds_short (as_line c.args.line.now) task
    (g.O.Outside.told c.args.outside.now) (g.O.Outside.told c.bind_readers.new.outside)
    c.in_err-bind_readers.field-0.0 (no_turn order (first_world task)) c.in_err-bind_readers.ensures.read_by_b_err c.in_err-bind_readers.ensures.read_by_a_err c.bind_readers.ensures.log c.in_err-bind_readers.ensures.puts.cut))

pub returns-in_err-make_turns-clause-err : goal.returns-in_err-make_turns-clause-err
returns-in_err-make_turns-clause-err g c =
    let p = err_from_is_err_and c.from_residual-in_err-make_turns.result c.from_residual-in_err-make_turns.ensures.1 in
    rw (p.1, p.2) (replay_stops c.args.input.now c.args.run.now c.requires.opened (as_line c.args.line.now)
    (g.O.Outside.told c.args.outside.now) (g.O.Outside.told c.bind_readers.new.outside) (g.O.Outside.told c.make_turns.new.outside)
    (record { read_by_b = c.in_ok-bind_readers.ensures.read_by_b; read_by_a = c.in_ok-bind_readers.ensures.read_by_a; log = c.bind_readers.ensures.log })
    c.in_ok-bind_readers.ensures.puts.made
    (all_turns c.args.replay.now.turns.items) c.args.replay.now.lines c.in_err-make_turns.field-0.0
    (subst (λ (ts : List Turn). LogStops (all_turns ts) c.args.replay.now.lines c.args.run.now.opening c.args.run.now.world.state
    (g.O.Outside.told c.bind_readers.new.outside) (g.O.Outside.told c.make_turns.new.outside)
    c.in_err-make_turns.field-0.0) c.deref.ensures.value c.in_err-make_turns.ensures.stop))

pub returns-in_err-make_turns-clause-fault : goal.returns-in_err-make_turns-clause-fault
returns-in_err-make_turns-clause-fault g c =
    let p = err_from_is_err_and c.from_residual-in_err-make_turns.result c.from_residual-in_err-make_turns.ensures.1 in
    rw (p.1, p.2) (cause_after (g.O.Outside.told c.args.outside.now).port_faults (g.O.Outside.told c.bind_readers.new.outside).port_faults (g.O.Outside.told c.make_turns.new.outside).port_faults
    c.in_err-make_turns.field-0.0 c.bind_readers.ensures.puts.only.counted c.in_err-make_turns.ensures.cause)

pub returns-clause-fault : goal.returns-clause-fault
returns-clause-fault g c =
    IfErr-map c.end.result
    (λ status fault. replay_cause _ _ status (fault_after (g.O.Outside.told c.args.outside.now).port_faults (g.O.Outside.told c.make_turns.new.outside).port_faults (g.O.Outside.told c.end.new.outside).port_faults status
    (λ port. let first = c.bind_readers.ensures.puts.only.counted port in let second = c.make_turns.ensures.only.counted port in omega (arith, first, second)) fault))
    c.end.ensures.puts.fault

pub returns-clause-ended : goal.returns-clause-ended
returns-clause-ended g c =
    IfOk-and c.end.result
    (λ status is grew told. replay_done c.args.input.now c.args.run.now c.requires.opened (as_line c.args.line.now)
    (g.O.Outside.told c.args.outside.now) (g.O.Outside.told c.bind_readers.new.outside) (g.O.Outside.told c.make_turns.new.outside)
    (record { read_by_b = c.in_ok-bind_readers.ensures.read_by_b; read_by_a = c.in_ok-bind_readers.ensures.read_by_a; log = c.bind_readers.ensures.log })
    c.in_ok-bind_readers.ensures.puts.made
    (all_turns c.args.replay.now.turns.items) c.make_turns.new.run.rounds c.make_turns.new.run.world.state status (g.O.Outside.told c.end.new.outside)
    (subst (λ (ts : List Turn). CourseMade (course.told (all_turns ts)) c.args.run.now.opening c.args.run.now.world.state c.make_turns.new.run.world.state
    (g.O.Outside.told c.bind_readers.new.outside) (g.O.Outside.told c.make_turns.new.outside))
    c.deref.ensures.value c.in_ok-make_turns.ensures.ok) (c.end.ensures.few c.in_ok-make_turns.ensures.stands) is
    (record {
      read_by_b = c.end.ensures.other_ports ReadByB b_isnt_log;
      read_by_a = c.end.ensures.other_ports ReadByA a_isnt_log;
      log = grew;
    })
    told)
    c.end.ensures.status c.end.ensures.ok c.end.ensures.puts.made

pub returns-clause-err : goal.returns-clause-err
returns-clause-err g c =
    IfErr-three c.end.result
    (λ status fault cut part. replay_is_cut (as_line c.args.line.now) (task_from c.args.input.now (course.told (all_turns c.args.replay.now.turns.items))) c.args.replay.now.lines
    (g.O.Outside.told c.args.outside.now) (g.O.Outside.told c.end.new.outside) _ _ status fault
    (replay_line_short c.args.input.now c.args.run.now c.requires.opened (as_line c.args.line.now)
    (g.O.Outside.told c.args.outside.now) (g.O.Outside.told c.bind_readers.new.outside) (g.O.Outside.told c.make_turns.new.outside)
    (record { read_by_b = c.in_ok-bind_readers.ensures.read_by_b; read_by_a = c.in_ok-bind_readers.ensures.read_by_a; log = c.bind_readers.ensures.log })
    c.in_ok-bind_readers.ensures.puts.made
    (all_turns c.args.replay.now.turns.items) c.make_turns.new.run.rounds c.make_turns.new.run.world.state status (g.O.Outside.told c.end.new.outside)
    (subst (λ (ts : List Turn). CourseMade (course.told (all_turns ts)) c.args.run.now.opening c.args.run.now.world.state c.make_turns.new.run.world.state
    (g.O.Outside.told c.bind_readers.new.outside) (g.O.Outside.told c.make_turns.new.outside))
    c.deref.ensures.value c.in_ok-make_turns.ensures.ok)
    (record { read_by_b = c.end.ensures.other_ports ReadByB b_isnt_log; read_by_a = c.end.ensures.other_ports ReadByA a_isnt_log; log = part })
    cut))
    c.end.ensures.puts.fault c.end.ensures.short c.end.ensures.err

pub returns-in_err-bind_readers-clause-fault : goal.returns-in_err-bind_readers-clause-fault
returns-in_err-bind_readers-clause-fault g c =
    let p = err_from_is_err_and c.from_residual.result c.from_residual.ensures.1 in
    rw (p.1, p.2) (replay_cause _ _ c.in_err-bind_readers.field-0.0 c.in_err-bind_readers.ensures.puts.fault)

pub returns-in_err-bind_readers-clause-load_counts : goal.returns-in_err-bind_readers-clause-load_counts
returns-in_err-bind_readers-clause-load_counts g c = c.bind_readers.ensures.puts.only.unloaded

pub returns-in_err-make_turns-clause-load_counts : goal.returns-in_err-make_turns-clause-load_counts
returns-in_err-make_turns-clause-load_counts g c = c.make_turns.ensures.only.unloaded ∙ c.bind_readers.ensures.puts.only.unloaded

pub returns-clause-load_counts : goal.returns-clause-load_counts
returns-clause-load_counts g c = c.end.ensures.puts.only.unloaded ∙ c.make_turns.ensures.only.unloaded ∙ c.bind_readers.ensures.puts.only.unloaded
