use Rattle.std.proofs.Common.{◌≡◌, ◌++◌, not, filter}
use Rattle.segment_wire.specs.Options.{option_octets}
use Rattle.segment_wire.specs.OptionFront.{options_left, octets_alone}
use Rattle.segment_wire.specs.Changes.{is_multipath, packed}
use Rattle.segment_wire.specs.Reading.{segment_of}
use Rattle.segment_wire.proofs.changes.kept_options.Given as goal

abbrev pub invariant-loop-option : goal.invariant-loop-option
invariant-loop-option l =
    l.kept.items ++ packed (filter (λ option. not (is_multipath option)) (octets_alone (options_left l.option-iterator)))
    ≡ packed (filter (λ option. not (is_multipath option)) (option_octets (segment_of l.segment).options))
