use Rattle.std.proofs.Common.{◌≡◌, ◌++◌, string_bytes, true}
use Rattle.segment_wire.specs.OptionFront.{options_left, octets_alone}
use Rattle.segment_wire.specs.Options.{option_octets}
use Rattle.segment_wire.specs.Reading.{segment_of}
use Rattle.link_trace.specs.Options.{list_words}
use Rattle.link_trace.proofs.options.put_options.Given as goal

abbrev pub invariant-loop-option : goal.invariant-loop-option
invariant-loop-option l =
    string_bytes l.text ++ list_words l.initials l.checksums l.is_first (octets_alone (options_left l.option-iterator))
    ≡ string_bytes l.fn.text ++ list_words l.initials l.checksums true (option_octets (segment_of l.segment).options)
