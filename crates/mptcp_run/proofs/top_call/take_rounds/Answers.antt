use Rattle.std.proofs.Common.{◌∙◌, arith}
use Rattle.std.proofs.lemmas.Result.{err_from_is_err_and}
use Rattle.outside_kit.specs.declared.port.Port.TheVariants.{ReadByA, ReadByB}
use Rattle.run_words.specs.Lines.{as_line}
use Rattle.mptcp_run.specs.Task.{Task, task_with, first_world}
use Rattle.mptcp_run.specs.Task as course
use Rattle.mptcp_run.proofs.Courses.{no_round}
use Rattle.mptcp_run.proofs.Performing.{binds_short}
use Rattle.run_outside.proofs.PortsLemmas.{IfOk-and, IfErr-both, IfErr-map, fault_after, b_isnt_log, a_isnt_log}
use Rattle.mptcp_run.proofs.Starting.{opened_at, course_done, course_short, course_line_short}
use Rattle.mptcp_run.proofs.top_call.take_rounds.Goals as goal

pub make_rounds-requires-clause-begins : goal.make_rounds-requires-clause-begins
make_rounds-requires-clause-begins g c = opened_at c.args.input.now c.args.report c.args.run.now c.requires

pub returns-in_err-bind_readers-clause-cut : goal.returns-in_err-bind_readers-clause-cut
returns-in_err-bind_readers-clause-cut g c =
    let task : Task = task_with c.args.input.now (course.rounds c.args.schedule c.args.rounds) c.args.report in
    let p = err_from_is_err_and c.from_residual.result c.from_residual.ensures.1 in
    rw (p.1, p.2) (binds_short (as_line c.args.line.now) task
    (g.O.Outside.told c.args.outside.now) (g.O.Outside.told c.bind_readers.new.outside)
    c.in_err-bind_readers.field-0.0 (no_round c.args.schedule c.args.rounds (first_world task)) c.in_err-bind_readers.ensures.read_by_b_err c.in_err-bind_readers.ensures.read_by_a_err c.bind_readers.ensures.log c.in_err-bind_readers.ensures.puts.cut)

pub returns-in_err-make_rounds-clause-cut : goal.returns-in_err-make_rounds-clause-cut
returns-in_err-make_rounds-clause-cut g c =
    let p = err_from_is_err_and c.from_residual-in_err-make_rounds.result c.from_residual-in_err-make_rounds.ensures.1 in
    rw (p.1, p.2) (course_short c.args.input.now c.args.report c.args.run.now c.requires (as_line c.args.line.now)
    (g.O.Outside.told c.args.outside.now) (g.O.Outside.told c.bind_readers.new.outside) (g.O.Outside.told c.make_rounds.new.outside)
    (record { read_by_b = c.in_ok-bind_readers.ensures.read_by_b; read_by_a = c.in_ok-bind_readers.ensures.read_by_a; log = c.bind_readers.ensures.log })
    c.in_ok-bind_readers.ensures.puts.made
    (course.rounds c.args.schedule c.args.rounds) c.in_err-make_rounds.field-0.0 c.in_err-make_rounds.ensures.cut)

pub returns-in_err-make_rounds-clause-fault : goal.returns-in_err-make_rounds-clause-fault
returns-in_err-make_rounds-clause-fault g c =
    let p = err_from_is_err_and c.from_residual-in_err-make_rounds.result c.from_residual-in_err-make_rounds.ensures.1 in
    rw (p.1, p.2) (fault_after (g.O.Outside.told c.args.outside.now).port_faults (g.O.Outside.told c.bind_readers.new.outside).port_faults (g.O.Outside.told c.make_rounds.new.outside).port_faults
    c.in_err-make_rounds.field-0.0 c.bind_readers.ensures.puts.only.counted c.in_err-make_rounds.ensures.fault)

pub returns-clause-fault : goal.returns-clause-fault
returns-clause-fault g c =
    IfErr-map c.end.result
    (λ status fault. fault_after (g.O.Outside.told c.args.outside.now).port_faults (g.O.Outside.told c.make_rounds.new.outside).port_faults (g.O.Outside.told c.end.new.outside).port_faults status
    (λ port. let first = c.bind_readers.ensures.puts.only.counted port in let second = c.make_rounds.ensures.only.counted port in omega (arith, first, second)) fault)
    c.end.ensures.puts.fault

pub returns-clause-ended : goal.returns-clause-ended
returns-clause-ended g c =
    IfOk-and c.end.result
    (λ status is grew told. course_done c.args.input.now c.args.report c.args.run.now c.requires (as_line c.args.line.now)
    (g.O.Outside.told c.args.outside.now) (g.O.Outside.told c.bind_readers.new.outside) (g.O.Outside.told c.make_rounds.new.outside)
    (record { read_by_b = c.in_ok-bind_readers.ensures.read_by_b; read_by_a = c.in_ok-bind_readers.ensures.read_by_a; log = c.bind_readers.ensures.log })
    c.in_ok-bind_readers.ensures.puts.made
    (course.rounds c.args.schedule c.args.rounds) c.make_rounds.new.run.rounds c.make_rounds.new.run.world.state status (g.O.Outside.told c.end.new.outside)
    c.in_ok-make_rounds.ensures.ok (c.end.ensures.few c.in_ok-make_rounds.ensures.stands) is
    (record {
      read_by_b = c.end.ensures.other_ports ReadByB b_isnt_log;
      read_by_a = c.end.ensures.other_ports ReadByA a_isnt_log;
      log = grew;
    })
    told)
    c.end.ensures.status c.end.ensures.ok c.end.ensures.puts.made

pub returns-clause-cut : goal.returns-clause-cut
returns-clause-cut g c =
    IfErr-both c.end.result
    (λ status cut part. course_line_short c.args.input.now c.args.report c.args.run.now c.requires (as_line c.args.line.now)
    (g.O.Outside.told c.args.outside.now) (g.O.Outside.told c.bind_readers.new.outside) (g.O.Outside.told c.make_rounds.new.outside)
    (record { read_by_b = c.in_ok-bind_readers.ensures.read_by_b; read_by_a = c.in_ok-bind_readers.ensures.read_by_a; log = c.bind_readers.ensures.log })
    c.in_ok-bind_readers.ensures.puts.made
    (course.rounds c.args.schedule c.args.rounds) c.make_rounds.new.run.rounds c.make_rounds.new.run.world.state status (g.O.Outside.told c.end.new.outside)
    c.in_ok-make_rounds.ensures.ok
    (record {
      read_by_b = c.end.ensures.other_ports ReadByB b_isnt_log;
      read_by_a = c.end.ensures.other_ports ReadByA a_isnt_log;
      log = part;
    })
    cut)
    c.end.ensures.short c.end.ensures.err

pub returns-in_err-bind_readers-clause-fault : goal.returns-in_err-bind_readers-clause-fault
returns-in_err-bind_readers-clause-fault g c =
    let p = err_from_is_err_and c.from_residual.result c.from_residual.ensures.1 in rw (p.1, p.2) c.in_err-bind_readers.ensures.puts.fault

pub returns-in_err-bind_readers-clause-load_counts : goal.returns-in_err-bind_readers-clause-load_counts
returns-in_err-bind_readers-clause-load_counts g c = c.bind_readers.ensures.puts.only.unloaded

pub returns-in_err-make_rounds-clause-load_counts : goal.returns-in_err-make_rounds-clause-load_counts
returns-in_err-make_rounds-clause-load_counts g c = c.make_rounds.ensures.only.unloaded ∙ c.bind_readers.ensures.puts.only.unloaded

pub returns-clause-load_counts : goal.returns-clause-load_counts
returns-clause-load_counts g c = c.end.ensures.puts.only.unloaded ∙ c.make_rounds.ensures.only.unloaded ∙ c.bind_readers.ensures.puts.only.unloaded
