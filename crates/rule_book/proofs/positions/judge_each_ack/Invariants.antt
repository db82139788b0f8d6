use Rattle.std.proofs.Common.{◌≡◌, drop, map}
use Rattle.mptcp_options.specs.Value.{value_of}
use Rattle.seen_streams.specs.Both.{acked_of}
use Rattle.seen_streams.specs.Shows.{stream_of}
use Rattle.rule_book.specs.Facts.{facts_of}
use Rattle.rule_book.specs.Stream.{acked_each}
use Rattle.rule_book.proofs.positions.judge_each_ack.Given as goal

abbrev pub invariant-loop-option : goal.invariant-loop-option
invariant-loop-option l =
    acked_each (facts_of l.judging) l.first (stream_of l.peers) (map value_of (drop l.option-index l.options)) (acked_of l.stream l.lane)
    ≡ acked_each (facts_of l.judging) l.first (stream_of l.peers) (map value_of l.options) (acked_of l.fn.stream l.fn.lane)
