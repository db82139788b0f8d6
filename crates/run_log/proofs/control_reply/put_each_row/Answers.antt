use Rattle.run_log.proofs.Words.{List, arith, subst, All, All-more, take_all, Row, RowFits}
use Rattle.std.proofs.lemmas.Grind.{common_steps}
use Rattle.run_log.proofs.control_reply.put_each_row.Goals as goal

pub loop-row-preserved : goal.loop-row-preserved
loop-row-preserved c = record {
  text = grind (arith, common_steps);
  fits = All-more RowFits c.args.rows.now c.loop-row.row-index _ c.loop-row-test.true c.loop-row.invariant.fits c.in_ok-put_row.ensures.fits;
}

pub returns-clause-fits : goal.returns-clause-fits
returns-clause-fits c = subst (λ (rows : List Row). All RowFits rows) (take_all c.loop-row.row-index c.args.rows.now c.loop-row-test.false) c.loop-row.invariant.fits
