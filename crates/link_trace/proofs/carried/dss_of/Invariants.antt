use Rattle.std.proofs.Common.{◌≡◌}
use Rattle.segment_wire.specs.OptionFront.{options_left, octets_alone}
use Rattle.segment_wire.specs.Options.{option_octets}
use Rattle.segment_wire.specs.Reading.{segment_of}
use Rattle.link_trace.specs.Carrying.{dss_in}
use Rattle.link_trace.proofs.carried.dss_of.Given as goal

abbrev pub invariant-loop-option : goal.invariant-loop-option
invariant-loop-option l =
    dss_in l.checksums (octets_alone (options_left l.option-iterator)) ≡ dss_in l.checksums (option_octets (segment_of l.segment).options)
