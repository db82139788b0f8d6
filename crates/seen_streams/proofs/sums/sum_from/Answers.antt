use Rattle.std.proofs.Common.{arith}
use Rattle.seen_octets.specs.Octets.{octet_at}
use Rattle.seen_streams.proofs.Summing.{sum_more}
use Rattle.seen_streams.proofs.sums.sum_from.Goals as goal

pub loop-position-preserved : goal.loop-position-preserved
loop-position-preserved c =
    let so_far = c.loop-position.invariant in
    record {
      begun = omega (arith, so_far.begun);
      within = omega (arith, so_far.within, c.piece-part.ensures.within, c.loop-position-test.true);
      sum = sum_more (octet_at c.args.octets.now) c.args.header.now c.args.from c.loop-position.position c.piece-part.result.now c.loop-position.sum
          c.add.new.self so_far.begun c.piece-part.ensures.held c.add.ensures so_far.sum;
    }
