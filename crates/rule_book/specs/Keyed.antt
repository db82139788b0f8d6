-- The options that are judged on, read off how they are kept.
use Rattle.std.specs.Prelude.{map}
use Rattle.mptcp_options.specs.Value.{value_of}
use Rattle.seen_streams.specs.State.{StreamValue}
use Rattle.rule_book.specs.declared.signals.Keyed.{Keyed}
use Rattle.rule_book.specs.Signals.{KeyedValue}

abbrev pub keyed_of : Keyed → StreamValue → KeyedValue
keyed_of keyed stream = record { options = map value_of keyed.options.items; keys = keyed.keys; stream = stream }
