use Rattle.std.proofs.Common.{◌≡◌, ◌++◌, map}
use Rattle.serde_json.specs.View.{view}
use Rattle.segment_wire.specs.OptionFront.{options_left, octets_alone}
use Rattle.segment_wire.specs.Options.{option_octets}
use Rattle.segment_wire.specs.Reading.{segment_of}
use Rattle.trace_json.specs.Options.{options_data}
use Rattle.trace_json.proofs.options.options_list.Given as goal

abbrev pub invariant-loop-option : goal.invariant-loop-option
invariant-loop-option l =
    map view l.list.items ++ options_data l.checksums (octets_alone (options_left l.option-iterator))
    ≡ options_data l.checksums (option_octets (segment_of l.segment).options)
