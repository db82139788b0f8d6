use Rattle.run_log.proofs.Words.{sym, arith}
use Rattle.std.proofs.lemmas.Result.{err_from_is_err_and}
use Rattle.run_log.proofs.Walking.{goes_on, stops, misses, ends, below_more, begins}
use Rattle.run_log.proofs.reading.read_lines.Goals as goal

pub loop-rest-init : goal.loop-rest-init
loop-rest-init c = record {
  few = omega arith;
  round = tt;
  same = begins c.args.setting.actors c.args.setting.width c.args.bytes.now c.new-turns.result.items c.new-turns.ensures.items;
}

pub returns-in_err-take_line : goal.returns-in_err-take_line
returns-in_err-take_line c =
    let p = err_from_is_err_and c.from_residual.result c.from_residual.ensures.1 in
    rw (p.1, p.2) (stops c.args.setting.actors c.args.setting.width c.in_err-take_line.field-0.0 c.loop-rest.number c.loop-rest.expected c.loop-rest.turns.items c.loop-rest.rest.now c.split_line.result.0.now c.split_line.result.1.now _
    c.split_line.ensures.line c.in_err-take_line.ensures c.loop-rest.invariant.same)

pub loop-rest-preserved : goal.loop-rest-preserved
loop-rest-preserved c =
    let one = c.in_ok-take_line.ensures in
    record {
      few = omega (arith, c.split_line.ensures.shorter, c.loop-rest.invariant.few);
      round = below_more c.args.setting.actors c.args.setting.width c.loop-rest.number c.loop-rest.expected c.take_line.new.expected c.loop-rest.turns.items c.take_line.new.turns.items c.split_line.result.0.now c.loop-rest.invariant.round one;
      same = goes_on c.args.setting.actors c.args.setting.width c.loop-rest.number c.loop-rest.expected c.take_line.new.expected c.loop-rest.turns.items c.take_line.new.turns.items c.loop-rest.rest.now c.split_line.result.0.now c.split_line.result.1.now _
          c.split_line.ensures.line one c.loop-rest.invariant.same;
    }

pub returns-then-not-is_nothing : goal.returns-then-not-is_nothing
returns-then-not-is_nothing c =
    misses c.args.setting.actors c.args.setting.width c.loop-rest.number c.loop-rest.expected c.loop-rest.turns.items c.loop-rest.rest.now _ (sym c.loop-rest-test.ensures) (sym c.if-not-is_nothing.ensures) c.loop-rest.invariant.same

pub returns : goal.returns
returns c =
    ends c.args.setting.actors c.args.setting.width c.loop-rest.number c.loop-rest.expected c.loop-rest.turns.items c.loop-rest.rest.now _ (sym c.loop-rest-test.ensures) (sym c.if-not-is_nothing.ensures) c.loop-rest.invariant.same
