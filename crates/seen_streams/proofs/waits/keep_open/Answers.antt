use Rattle.std.proofs.Common.{◌∙◌, drop}
use Rattle.std.proofs.lemmas.List.{at_drop_all}
use Rattle.seen_octets.specs.Octets.{octet_at}
use Rattle.seen_streams.specs.Waits.{still_open}
use Rattle.seen_streams.proofs.Gaps.{kept_on, kept_out}
use Rattle.seen_streams.proofs.waits.keep_open.Goals as goal

pub loop-one-preserved : goal.loop-one-preserved
loop-one-preserved c =
    let octet = octet_at c.args.octets.now in
    let next = c.in_ok-keep_if_open.ensures in
    record {
      gaps = next.gaps;
      fresh = next.fresh ∙ c.loop-one.invariant.fresh;
      tried = kept_on octet c.loop-one.waits.tried.items c.keep_if_open.new.waits.tried.items _ c.args.fresh.now c.loop-one.one-index c.loop-one-test.true
          next.tried c.loop-one.invariant.tried;
    }

pub returns-clause-tried : goal.returns-clause-tried
returns-clause-tried c =
    let octet = octet_at c.args.octets.now in
    kept_out c.loop-one.waits.tried.items _ (still_open octet (drop c.loop-one.one-index c.args.fresh.now))
    (at_drop_all (still_open octet) c.args.fresh.now c.loop-one.one-index c.loop-one-test.false) c.loop-one.invariant.tried
