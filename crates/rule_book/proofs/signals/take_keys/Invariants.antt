use Rattle.std.proofs.Common.{◌≡◌, drop, map}
use Rattle.seen_connections.specs.SeenOptions.{as_value}
use Rattle.seen_streams.specs.Shows.{stream_of}
use Rattle.rule_book.specs.Facts.{facts_of}
use Rattle.rule_book.specs.Keyed.{keyed_of}
use Rattle.rule_book.specs.Signals.{keyed_each}
use Rattle.rule_book.proofs.signals.take_keys.Given as goal

abbrev pub invariant-loop-option : goal.invariant-loop-option
invariant-loop-option l =
    keyed_each (facts_of l.judging) (map as_value (drop l.option-index l.options)) (keyed_of l.keyed (stream_of l.stream))
    ≡ keyed_each (facts_of l.judging) (map as_value l.options) (keyed_of l.fn.keyed (stream_of l.fn.stream))
