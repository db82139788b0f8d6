use Rattle.std.proofs.Common.{◌≡◌}
use Rattle.segment_wire.specs.OptionFront.{octets_alone, options_left}
use Rattle.segment_wire.specs.Options.{option_octets}
use Rattle.segment_wire.specs.Reading.{segment_of}
use Rattle.path_segments.specs.Heard.{first_mss}
use Rattle.path_segments.proofs.listening.first_mss.Given as goal

abbrev pub invariant-loop-option : goal.invariant-loop-option
invariant-loop-option l =
    first_mss (octets_alone (options_left l.option-iterator)) ≡ first_mss (option_octets (segment_of l.segment).options)
