use Rattle.std.proofs.Common.{◌≡◌, ◌++◌, map}
use Rattle.segment_wire.specs.OptionFront.{octets_alone, options_left}
use Rattle.segment_wire.specs.Options.{option_octets}
use Rattle.segment_wire.specs.Reading.{segment_of}
use Rattle.seen_connections.specs.SeenOptions.{as_value, each_seen}
use Rattle.seen_connections.proofs.options.read_options.Given as goal

abbrev pub invariant-loop-option : goal.invariant-loop-option
invariant-loop-option l =
    map as_value l.seen.items ++ each_seen l.checksums (octets_alone (options_left l.option-iterator))
    ≡ each_seen l.checksums (option_octets (segment_of l.segment).options)
