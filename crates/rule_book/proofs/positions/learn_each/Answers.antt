use Rattle.std.proofs.Common.{◌∙◌, ◌+◌, sym, ap, List, drop, map}
use Rattle.std.proofs.lemmas.List.{at_drop_more}
use Rattle.mptcp_options.specs.declared.option.MpOption.{MpOption}
use Rattle.mptcp_options.specs.Value.{value_of}
use Rattle.seen_streams.specs.Shows.{mapped_of}
use Rattle.rule_book.specs.Stream.{mapped_each}
use Rattle.rule_book.proofs.positions.learn_each.Goals as goal

pub loop-option-preserved : goal.loop-option-preserved
loop-option-preserved c =
    let teller = c.args.teller.now in
    let later = map value_of (drop (c.loop-option.option-index + 1) c.args.options.now) in
    let state = mapped_of c.loop-option.stream c.loop-option.lane c.loop-option.learnt in
    ap (mapped_each teller c.args.position later) c.in_ok-learn_one.ensures
    ∙ sym (at_drop_more (λ (all : List MpOption). mapped_each teller c.args.position (map value_of all) state) c.args.options.now c.loop-option.option-index _ c.loop-option-test.true)
    ∙ c.loop-option.invariant
