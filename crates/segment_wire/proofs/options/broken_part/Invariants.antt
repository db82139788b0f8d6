use Rattle.std.proofs.Common.{◌≡◌, length}
use Rattle.segment_wire.specs.Options.{broken_part}
use Rattle.segment_wire.proofs.options.broken_part.Given as goal

abbrev pub invariant-loop-others : goal.invariant-loop-others
invariant-loop-others l = broken_part l.rest ≡ broken_part l.options

abbrev pub decreases-loop-others : goal.decreases-loop-others
decreases-loop-others l = length l.rest
