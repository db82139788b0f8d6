use Rattle.std.proofs.Common.{◌≡◌}
use Rattle.segment_wire.specs.OptionFront.{options_left, octets_alone}
use Rattle.segment_wire.specs.Options.{option_octets}
use Rattle.segment_wire.specs.Reading.{segment_of}
use Rattle.link_trace.specs.Meanings.{scale_in}
use Rattle.link_trace.proofs.meanings.scale_in.Given as goal

abbrev pub invariant-loop-option : goal.invariant-loop-option
invariant-loop-option l = scale_in (octets_alone (options_left l.option-iterator)) ≡ scale_in (option_octets (segment_of l.segment).options)
