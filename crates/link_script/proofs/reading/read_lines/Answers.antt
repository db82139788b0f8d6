use Rattle.std.proofs.Common.{sym, arith}
use Rattle.std.proofs.lemmas.Result.{err_from_is_err_and}
use Rattle.link_script.proofs.ReadTurns.{goes_on, stops, misses, ends}
use Rattle.link_script.proofs.reading.read_lines.Goals as goal

pub returns-in_err-take_line : goal.returns-in_err-take_line
returns-in_err-take_line c =
    let p = err_from_is_err_and c.from_residual.result c.from_residual.ensures.1 in
    rw (p.1, p.2) (stops c.in_err-take_line.field-0.0 c.loop-rest.number c.loop-rest.seen c.loop-rest.rest.now c.split_line.result.0.now c.split_line.result.1.now _
    c.split_line.ensures.line c.in_err-take_line.ensures.exact c.loop-rest.invariant.same)

pub loop-rest-preserved : goal.loop-rest-preserved
loop-rest-preserved c = record {
  few = omega (arith, c.in_ok-take_line.ensures.few);
  same = goes_on c.loop-rest.number c.loop-rest.seen c.take_line.new.seen c.loop-rest.rest.now c.split_line.result.0.now c.split_line.result.1.now _
      c.split_line.ensures.line c.in_ok-take_line.ensures.exact c.loop-rest.invariant.same;
}

pub returns-then-not-has_ended : goal.returns-then-not-has_ended
returns-then-not-has_ended c =
    misses c.loop-rest.number c.loop-rest.seen c.loop-rest.rest.now _ (sym c.loop-rest-test.ensures) (sym c.if-not-has_ended.ensures) c.loop-rest.invariant.same

pub returns : goal.returns
returns c =
    ends c.loop-rest.number c.loop-rest.seen c.loop-rest.rest.now _ (sym c.loop-rest-test.ensures) (sym c.if-not-has_ended.ensures) c.loop-rest.invariant.same
