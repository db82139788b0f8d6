use Rattle.std.proofs.Common.{◌≡◌, drop, map}
use Rattle.mptcp_options.specs.Value.{value_of}
use Rattle.seen_streams.specs.Shows.{mapped_of}
use Rattle.rule_book.specs.Stream.{mapped_each}
use Rattle.rule_book.proofs.positions.learn_each.Given as goal

abbrev pub invariant-loop-option : goal.invariant-loop-option
invariant-loop-option l =
    mapped_each l.teller l.position (map value_of (drop l.option-index l.options)) (mapped_of l.stream l.lane l.learnt)
    ≡ mapped_each l.teller l.position (map value_of l.options) (mapped_of l.fn.stream l.fn.lane l.fn.learnt)
