use Rattle.std.proofs.Common.{◌≡◌}
use Rattle.segment_wire.specs.OptionFront.{octets_alone, options_left}
use Rattle.segment_wire.specs.Options.{option_octets}
use Rattle.segment_wire.specs.Reading.{segment_of}
use Rattle.std.specs.Prelude.{find}
use Rattle.connection_table.specs.Routing.{is_join}
use Rattle.connection_table.proofs.routing.first_join.Given as goal

abbrev pub invariant-loop-option : goal.invariant-loop-option
invariant-loop-option l =
    find is_join (octets_alone (options_left l.option-iterator)) ≡ find is_join (option_octets (segment_of l.segment).options)
