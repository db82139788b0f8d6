use Rattle.std.proofs.Common.{◌≡◌}
use Rattle.segment_wire.specs.OptionFront.{octets_alone, options_left}
use Rattle.segment_wire.specs.Options.{option_octets}
use Rattle.segment_wire.specs.Reading.{segment_of}
use Rattle.seen_connections.specs.Asked.{first_asked}
use Rattle.seen_connections.proofs.asked.asked_in.Given as goal

abbrev pub invariant-loop-option : goal.invariant-loop-option
invariant-loop-option l =
    first_asked (octets_alone (options_left l.option-iterator)) ≡ first_asked (option_octets (segment_of l.segment).options)
