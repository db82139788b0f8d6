use Rattle.std.proofs.Common.{◌≡◌}
use Rattle.segment_wire.specs.OptionFront.{octets_alone, options_left}
use Rattle.segment_wire.specs.Options.{option_octets}
use Rattle.segment_wire.specs.Reading.{segment_of}
use Rattle.seen_connections.specs.Asked.{first_answer}
use Rattle.seen_connections.proofs.asked.answer_in.Given as goal

abbrev pub invariant-loop-option : goal.invariant-loop-option
invariant-loop-option l =
    first_answer l.opening (octets_alone (options_left l.option-iterator))
    ≡ first_answer l.opening (option_octets (segment_of l.segment).options)
