use Rattle.std.proofs.Common.{◌≡◌, drop, map}
use Rattle.seen_connections.specs.SeenOptions.{as_value}
use Rattle.seen_streams.specs.Shows.{stream_of}
use Rattle.rule_book.specs.Signals.{told_formless}
use Rattle.rule_book.proofs.signals.tell_formless.Given as goal

abbrev pub invariant-loop-option : goal.invariant-loop-option
invariant-loop-option l =
    told_formless l.packet (map as_value (drop l.option-index l.options)) (stream_of l.stream)
    ≡ told_formless l.packet (map as_value l.options) (stream_of l.fn.stream)
