use Rattle.std.proofs.Common.{arith}
use Rattle.seen_octets.specs.Octets.{octet_at}
use Rattle.seen_streams.proofs.Gaps.{passed_on}
use Rattle.seen_streams.proofs.waits.first_gap.Goals as goal

pub loop-position-preserved : goal.loop-position-preserved
loop-position-preserved c =
    let so_far = c.loop-position.invariant in
    record {
      begun = omega (arith, so_far.begun);
      within = omega (arith, so_far.within, c.piece-part.ensures.within, c.loop-position-test.true);
      held = passed_on (octet_at c.args.octets.now) c.args.from c.loop-position.position c.piece-part.result.now so_far.begun so_far.held
          c.piece-part.ensures.held;
    }
