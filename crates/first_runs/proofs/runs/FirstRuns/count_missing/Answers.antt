use Rattle.std.proofs.Common.{arith}
use Rattle.first_runs.proofs.Missing.{gap_counted, no_gap_counted}
use Rattle.first_runs.proofs.runs.FirstRuns.count_missing.Goals as goal

pub returns-in_default : goal.returns-in_default
returns-in_default c =
    omega (arith, c.loop-place.invariant.counted, no_gap_counted c.args.self.now c.loop-place.place c.args.to c.in_default.ensures.none)

pub loop-place-preserved : goal.loop-place-preserved
loop-place-preserved c =
    let so_far = c.loop-place.invariant in
    let gap = c.in-Some.ensures.some in
    let counted = gap_counted c.args.self.now c.loop-place.place c.args.to c.in-Some.begin c.in-Some.end gap in
    record {
      begun = omega (arith, so_far.begun, gap.begun, gap.some);
      within = omega (arith, gap.within);
      few = omega (arith, so_far.few, gap.begun, gap.some, gap.within);
      counted = omega (arith, so_far.counted, counted);
    }
