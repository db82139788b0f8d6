use Rattle.std.proofs.Common.{◌∙◌, ◌+◌, sym, ap, List, drop, map}
use Rattle.std.proofs.lemmas.List.{at_drop_more}
use Rattle.mptcp_options.specs.declared.option.MpOption.{MpOption}
use Rattle.mptcp_options.specs.Value.{value_of}
use Rattle.seen_streams.specs.Shows.{stream_of}
use Rattle.rule_book.specs.Facts.{facts_of}
use Rattle.rule_book.specs.Signals.{signalled}
use Rattle.rule_book.proofs.signals.judge_signals.Goals as goal

pub loop-option-preserved : goal.loop-option-preserved
loop-option-preserved c =
    let facts = facts_of c.args.judging.now in
    let later = map value_of (drop (c.loop-option.option-index + 1) c.args.options.now) in
    let state = stream_of c.loop-option.stream in
    ap (signalled facts c.args.known.now later) c.in_ok-judge_signal.ensures
    ∙ sym (at_drop_more (λ (all : List MpOption). signalled facts c.args.known.now (map value_of all) state) c.args.options.now c.loop-option.option-index _ c.loop-option-test.true)
    ∙ c.loop-option.invariant
