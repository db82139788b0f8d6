use Rattle.std.proofs.Common.{◌≡◌, drop, map}
use Rattle.mptcp_options.specs.Value.{value_of}
use Rattle.seen_streams.specs.Shows.{stream_of}
use Rattle.rule_book.specs.Stream.{failed_each}
use Rattle.rule_book.proofs.positions.judge_each_fail.Given as goal

abbrev pub invariant-loop-option : goal.invariant-loop-option
invariant-loop-option l =
    failed_each l.packet l.first (stream_of l.peers) (map value_of (drop l.option-index l.options)) (stream_of l.stream)
    ≡ failed_each l.packet l.first (stream_of l.peers) (map value_of l.options) (stream_of l.fn.stream)
