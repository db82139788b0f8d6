use Rattle.std.proofs.Common.{◌≡◌, length}
use Rattle.segment_wire.specs.Options.{are_whole}
use Rattle.segment_wire.proofs.options.are_whole.Given as goal

abbrev pub invariant-loop-others : goal.invariant-loop-others
invariant-loop-others l = are_whole l.rest ≡ are_whole l.options

abbrev pub decreases-loop-others : goal.decreases-loop-others
decreases-loop-others l = length l.rest
