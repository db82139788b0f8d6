use Rattle.std.proofs.Common.{refl}
use Rattle.seen_streams.proofs.Stretches.{one_more}
use Rattle.seen_streams.proofs.places.by_mappings.Goals as goal

pub loop-mapping-preserved : goal.loop-mapping-preserved
loop-mapping-preserved c =
    one_more c.args.from c.args.to c.loop-mapping.mapping-index c.args.mappings.now _ _ _ _ c.either-stretch.result c.loop-mapping-test.true refl
    c.loop-mapping.invariant c.by_mapping.ensures c.either-stretch.ensures
