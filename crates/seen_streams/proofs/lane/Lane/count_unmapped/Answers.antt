use Rattle.std.proofs.Common.{◌∙◌, ℕ, ◌-◌, ap, arith}
use Rattle.seen_streams.specs.Ends.{unmapped}
use Rattle.seen_streams.specs.Shows.{lane_of}
use Rattle.seen_streams.proofs.Counting.{counted_on, counted_up}
use Rattle.seen_streams.proofs.lane.Lane.count_unmapped.Goals as goal

pub loop-position-preserved : goal.loop-position-preserved
loop-position-preserved c =
    let so_far = c.loop-position.invariant in
    let next = c.unmapped_from-stretch.ensures in
    record {
      begun = omega (arith, so_far.begun, next.further);
      within = omega (arith, next.within);
      few = omega (arith, so_far.few, next.few, next.further);
      counted = counted_on (lane_of c.args.self.now) c.loop-position.position c.unmapped_from-stretch.result.end c.top-top.result c.loop-position.count
          c.unmapped_from-stretch.result.count next.further next.within next.counted so_far.counted;
    }

pub returns : goal.returns
returns c =
    counted_up (lane_of c.args.self.now) c.loop-position.position c.top-top.result c.loop-position.count c.loop-position-test.false c.loop-position.invariant.counted
    ∙ ap (λ (n : ℕ). unmapped (lane_of c.args.self.now) 1 (n - 1)) c.top-top.ensures.value
