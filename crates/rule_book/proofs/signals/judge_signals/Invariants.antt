use Rattle.std.proofs.Common.{◌≡◌, drop, map}
use Rattle.mptcp_options.specs.Value.{value_of}
use Rattle.seen_streams.specs.Shows.{stream_of}
use Rattle.rule_book.specs.Facts.{facts_of}
use Rattle.rule_book.specs.Signals.{signalled}
use Rattle.rule_book.proofs.signals.judge_signals.Given as goal

abbrev pub invariant-loop-option : goal.invariant-loop-option
invariant-loop-option l =
    signalled (facts_of l.judging) l.known (map value_of (drop l.option-index l.options)) (stream_of l.stream)
    ≡ signalled (facts_of l.judging) l.known (map value_of l.options) (stream_of l.fn.stream)
