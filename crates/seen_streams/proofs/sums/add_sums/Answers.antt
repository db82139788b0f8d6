use Rattle.std.proofs.Common.{◌∙◌, ◌+◌, sym, ap, List, drop}
use Rattle.std.proofs.lemmas.List.{at_drop_more}
use Rattle.seen_streams.specs.declared.told.ToldMapping.{ToldMapping}
use Rattle.seen_streams.specs.Shows.{lane_of}
use Rattle.seen_streams.specs.Sums.{with_sums}
use Rattle.seen_streams.proofs.sums.add_sums.Goals as goal

pub loop-mapping-preserved : goal.loop-mapping-preserved
loop-mapping-preserved c =
    let later = drop (c.loop-mapping.mapping-index + 1) c.args.mappings.now in
    let lane = lane_of c.loop-mapping.lane in
    ap (with_sums c.args.packet later) c.in_ok-add_sum.ensures
    ∙ sym (at_drop_more (λ (mappings : List ToldMapping). with_sums c.args.packet mappings lane) c.args.mappings.now c.loop-mapping.mapping-index _ c.loop-mapping-test.true)
    ∙ c.loop-mapping.invariant
