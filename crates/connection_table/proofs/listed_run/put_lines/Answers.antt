use Rattle.std.proofs.Common.{◌<◌, ◌≤◌, ◌∙◌, ◌++◌, refl, sym, subst, length, arith}
use Rattle.std.specs.List.{slice_get}
use Rattle.std.proofs.lemmas.Result.{err_from_is_err_and}
use Rattle.outside_kit.specs.declared.port.Port.{Port}
use Rattle.outside_kit.specs.Outside.{HoldsAfter}
use Rattle.connection_table.specs.ManyLines.{line_if}
use Rattle.run_outside.specs.Plan.{AddsAll}
use Rattle.run_outside.proofs.Calls.{adds_none, all_then}
use Rattle.connection_table.proofs.CallsMade.{put_ends, put_more, puts_all, puts_upto}
use Rattle.connection_table.proofs.LinesPut.{line_more, line_part, lines_all, lines_upto, none_put, put_fault_later, whole_then}
use Rattle.connection_table.proofs.listed_run.put_lines.Goals as goal

pub loop-connection-init : goal.loop-connection-init
loop-connection-init g c = record {
  within = omega arith;
  held = none_put ((g.O.Outside.told c.args.outside.now).holds Port.Log);
  calls = adds_none (g.O.Outside.told c.args.outside.now).calls;
  counted = omega arith;
  loads = refl;
  other_counts = λ other not. refl;
  other_ports = λ other not. refl;
}

pub returns-in_err-put_line-clause-err : goal.returns-in_err-put_line-clause-err
returns-in_err-put_line-clause-err g c =
    let p = err_from_is_err_and c.from_residual.result c.from_residual.ensures.1 in
    let within : c.loop-connection.connection < length c.args.table.now = omega (arith, c.loop-connection-test.true, c.len-connection-end.ensures.count) in
    rw p.1 (line_part c.loop-connection.connection c.args.table.now _ _ _ within c.loop-connection.invariant.held c.in_err-put_line.ensures.err)

pub returns-in_err-put_line-clause-fault : goal.returns-in_err-put_line-clause-fault
returns-in_err-put_line-clause-fault g c =
    let p = err_from_is_err_and c.from_residual.result c.from_residual.ensures.1 in
    rw (p.1, p.2) (put_fault_later _ _ _ c.in_err-put_line.field-0.0 c.loop-connection.invariant.counted c.in_err-put_line.ensures.fault)

pub loop-connection-preserved : goal.loop-connection-preserved
loop-connection-preserved g c =
    let within : c.loop-connection.connection < length c.args.table.now = omega (arith, c.loop-connection-test.true, c.len-connection-end.ensures.count) in
    record {
      within = omega (arith, within);
      held = whole_then _ _ _ (lines_upto 0 c.loop-connection.connection c.args.table.now) (line_if c.loop-connection.connection (slice_get c.args.table.now c.loop-connection.connection)) _
          c.loop-connection.invariant.held c.in_ok-put_line.ensures.ok (line_more c.loop-connection.connection c.args.table.now within);
      calls = subst (λ plan. AddsAll plan (g.O.Outside.told c.args.outside.now).calls (g.O.Outside.told c.put_line.new.outside).calls) (sym (put_more c.loop-connection.connection c.args.table.now within))
          (all_then (puts_upto 0 c.loop-connection.connection c.args.table.now) _ _ _ _ c.loop-connection.invariant.calls c.in_ok-put_line.ensures.calls);
      counted = (let first = c.loop-connection.invariant.counted in let second = c.put_line.ensures.counted in omega (arith, first, second));
      loads = c.put_line.ensures.loads ∙ c.loop-connection.invariant.loads;
      other_counts = λ other not. c.put_line.ensures.other_counts other not ∙ c.loop-connection.invariant.other_counts other not;
      other_ports = λ other not. c.put_line.ensures.other_ports other not ∙ c.loop-connection.invariant.other_ports other not;
    }

pub returns-clause-ok : goal.returns-clause-ok
returns-clause-ok g c =
    let past : length c.args.table.now ≤ c.loop-connection.connection = omega (arith, c.loop-connection-test.false, c.len-connection-end.ensures.count) in
    subst (λ text. HoldsAfter ((g.O.Outside.told c.args.outside.now).holds Port.Log) ((g.O.Outside.told c.loop-connection.outside).holds Port.Log) (λ held. held ++ text))
    (lines_all c.loop-connection.connection c.args.table.now past) c.loop-connection.invariant.held

pub returns-in_err-put_line-clause-calls_cut : goal.returns-in_err-put_line-clause-calls_cut
returns-in_err-put_line-clause-calls_cut g c =
    let p = err_from_is_err_and c.from_residual.result c.from_residual.ensures.1 in
    let within : c.loop-connection.connection < length c.args.table.now = omega (arith, c.loop-connection-test.true, c.len-connection-end.ensures.count) in
    rw (p.1, p.2) (put_ends c.loop-connection.connection c.args.table.now _ _ _ within c.loop-connection.invariant.calls c.in_err-put_line.field-0.0 c.in_err-put_line.ensures.calls_cut)

pub returns-clause-calls : goal.returns-clause-calls
returns-clause-calls g c =
    let past : length c.args.table.now ≤ c.loop-connection.connection = omega (arith, c.loop-connection-test.false, c.len-connection-end.ensures.count) in
    subst (λ plan. AddsAll plan (g.O.Outside.told c.args.outside.now).calls (g.O.Outside.told c.loop-connection.outside).calls)
    (puts_all c.loop-connection.connection c.args.table.now past) c.loop-connection.invariant.calls
