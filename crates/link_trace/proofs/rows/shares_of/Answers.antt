use Rattle.std.proofs.Common.{arith}
use Rattle.link_trace.proofs.Sums.{shares_end}
use Rattle.link_trace.proofs.rows.shares_of.Goals as goal

pub returns : goal.returns
returns c =
    let over = c.loop-segment-test.false in let end = c.loop-segment.auto.segment-index-end in
    shares_end c.args.path c.args.direction.now c.loop-segment.segment-index (omega (arith, over, end)) c.loop-segment.again c.loop-segment.moved c.loop-segment.fresh
    c.loop-segment.edge c.loop-segment.places c.loop-segment.invariant.again_fits c.loop-segment.invariant.moved_fits c.loop-segment.invariant.fresh_fits
    c.loop-segment.invariant.again c.loop-segment.invariant.moved c.loop-segment.invariant.fresh
