use Rattle.std.proofs.Common.{◌∙◌, ◌+◌, sym, ap, List, drop}
use Rattle.std.proofs.lemmas.List.{at_drop_more}
use Rattle.seen_streams.specs.declared.told.ToldMapping.{ToldMapping}
use Rattle.seen_streams.specs.Shows.{stream_of}
use Rattle.rule_book.specs.Facts.{facts_of}
use Rattle.rule_book.specs.Stream.{within_each}
use Rattle.rule_book.proofs.positions.judge_within.Goals as goal

pub loop-mapping-preserved : goal.loop-mapping-preserved
loop-mapping-preserved c =
    let facts = facts_of c.args.judging.now in
    let later = (drop (c.loop-mapping.mapping-index + 1) c.args.mappings.now) in
    let state = stream_of c.loop-mapping.stream in
    ap (within_each facts c.args.position later) c.in_ok-within_one.ensures
    ∙ sym (at_drop_more (λ (all : List ToldMapping). within_each facts c.args.position all state) c.args.mappings.now c.loop-mapping.mapping-index _ c.loop-mapping-test.true)
    ∙ c.loop-mapping.invariant
