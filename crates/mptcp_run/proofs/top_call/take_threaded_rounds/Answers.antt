use Rattle.std.proofs.Common.{arith}
use Rattle.outside_kit.specs.declared.port.Port.TheVariants.{ReadByA, ReadByB}
use Rattle.run_words.specs.Lines.{as_line}
use Rattle.mptcp_run.specs.Task.{Task, task_from, first_world}
use Rattle.mptcp_run.specs.Task as course
use Rattle.mptcp_run.specs.declared.report.Report.TheVariants as report
use Rattle.mptcp_run.proofs.Courses.{no_woven_round}
use Rattle.mptcp_run.proofs.Performing.{binds_short}
use Rattle.run_outside.proofs.PortsLemmas.{IfOk-and, IfErr-both, IfErr-map, fault_after, b_isnt_log, a_isnt_log}
use Rattle.mptcp_run.proofs.Starting.{opened_at, course_done, course_short, course_line_short}
use Rattle.mptcp_run.proofs.ThreadsMade.{when_ok, when_err}
use Rattle.mptcp_run.proofs.top_call.take_threaded_rounds.Goals as goal

pub make_threaded_rounds-run-requires-clause-begins : goal.make_threaded_rounds-run-requires-clause-begins
make_threaded_rounds-run-requires-clause-begins g c κs lives = opened_at c.args.input.now report.Log c.args.run c.requires.opened

pub returns-in-Err-clause-cut : goal.returns-in-Err-clause-cut
returns-in-Err-clause-cut g c =
    let task : Task = task_from c.args.input.now (course.threads c.args.rounds) in
    binds_short (as_line c.args.line.now) task
    (g.O.Outside.told c.args.outside.now) (g.O.Outside.told c.bind_readers.new.outside)
    c.in-Err.status (no_woven_round c.args.rounds (first_world task)) c.in-Err.ensures.read_by_b_err c.in-Err.ensures.read_by_a_err c.bind_readers.ensures.log c.in-Err.ensures.puts.cut

pub returns-in-Err-clause-fault : goal.returns-in-Err-clause-fault
returns-in-Err-clause-fault g c = c.in-Err.ensures.puts.fault

pub returns-in-Err-told-clause-cut : goal.returns-in-Err-told-clause-cut
returns-in-Err-told-clause-cut g c =
    course_short c.args.input.now report.Log c.args.run c.requires.opened (as_line c.args.line.now)
    (g.O.Outside.told c.args.outside.now) (g.O.Outside.told c.bind_readers.new.outside) (g.O.Outside.told c.make_threaded_rounds-run.new.outside)
    (record { read_by_b = c.in-Ok.ensures.read_by_b; read_by_a = c.in-Ok.ensures.read_by_a; log = c.bind_readers.ensures.log })
    c.in-Ok.ensures.puts.made
    (course.threads c.args.rounds) c.in-Err-told.status
    (when_err _ c.make_threaded_rounds-run.result.1 c.in-Err-told.status c.in-Err-told.is c.make_threaded_rounds-run.ensures.cut)

pub returns-in-Err-told-clause-fault : goal.returns-in-Err-told-clause-fault
returns-in-Err-told-clause-fault g c =
    fault_after (g.O.Outside.told c.args.outside.now).port_faults (g.O.Outside.told c.bind_readers.new.outside).port_faults (g.O.Outside.told c.make_threaded_rounds-run.new.outside).port_faults
    c.in-Err-told.status c.bind_readers.ensures.puts.only.counted
    (when_err _ c.make_threaded_rounds-run.result.1 c.in-Err-told.status c.in-Err-told.is c.make_threaded_rounds-run.ensures.fault)

pub returns-in-Ok-told-clause-fault : goal.returns-in-Ok-told-clause-fault
returns-in-Ok-told-clause-fault g c =
    IfErr-map c.end-told.result
    (λ status fault. fault_after (g.O.Outside.told c.args.outside.now).port_faults (g.O.Outside.told c.make_threaded_rounds-run.new.outside).port_faults (g.O.Outside.told c.end-told.new.outside).port_faults status
    (λ port. let first = c.bind_readers.ensures.puts.only.counted port in let second = c.make_threaded_rounds-run.ensures.only.counted port in omega (arith, first, second)) fault)
    c.end-told.ensures.puts.fault

pub returns-in-Ok-told-clause-ended : goal.returns-in-Ok-told-clause-ended
returns-in-Ok-told-clause-ended g c =
    IfOk-and c.end-told.result
    (λ status is grew told. course_done c.args.input.now report.Log c.args.run c.requires.opened (as_line c.args.line.now)
    (g.O.Outside.told c.args.outside.now) (g.O.Outside.told c.bind_readers.new.outside) (g.O.Outside.told c.make_threaded_rounds-run.new.outside)
    (record { read_by_b = c.in-Ok.ensures.read_by_b; read_by_a = c.in-Ok.ensures.read_by_a; log = c.bind_readers.ensures.log })
    c.in-Ok.ensures.puts.made
    (course.threads c.args.rounds) c.make_threaded_rounds-run.result.0.rounds c.make_threaded_rounds-run.result.0.world.state status (g.O.Outside.told c.end-told.new.outside)
    (when_ok c.make_threaded_rounds-run.result.1 c.in-Ok-told.field-0 c.in-Ok-told.is c.make_threaded_rounds-run.ensures.ok)
    (c.end-told.ensures.few (when_ok c.make_threaded_rounds-run.result.1 c.in-Ok-told.field-0 c.in-Ok-told.is c.make_threaded_rounds-run.ensures.stands)) is
    (record {
      read_by_b = c.end-told.ensures.other_ports ReadByB b_isnt_log;
      read_by_a = c.end-told.ensures.other_ports ReadByA a_isnt_log;
      log = grew;
    })
    told)
    c.end-told.ensures.status c.end-told.ensures.ok c.end-told.ensures.puts.made

pub returns-in-Ok-told-clause-cut : goal.returns-in-Ok-told-clause-cut
returns-in-Ok-told-clause-cut g c =
    IfErr-both c.end-told.result
    (λ status cut part. course_line_short c.args.input.now report.Log c.args.run c.requires.opened (as_line c.args.line.now)
    (g.O.Outside.told c.args.outside.now) (g.O.Outside.told c.bind_readers.new.outside) (g.O.Outside.told c.make_threaded_rounds-run.new.outside)
    (record { read_by_b = c.in-Ok.ensures.read_by_b; read_by_a = c.in-Ok.ensures.read_by_a; log = c.bind_readers.ensures.log })
    c.in-Ok.ensures.puts.made
    (course.threads c.args.rounds) c.make_threaded_rounds-run.result.0.rounds c.make_threaded_rounds-run.result.0.world.state status (g.O.Outside.told c.end-told.new.outside)
    (when_ok c.make_threaded_rounds-run.result.1 c.in-Ok-told.field-0 c.in-Ok-told.is c.make_threaded_rounds-run.ensures.ok)
    (record {
      read_by_b = c.end-told.ensures.other_ports ReadByB b_isnt_log;
      read_by_a = c.end-told.ensures.other_ports ReadByA a_isnt_log;
      log = part;
    })
    cut)
    c.end-told.ensures.short c.end-told.ensures.err
