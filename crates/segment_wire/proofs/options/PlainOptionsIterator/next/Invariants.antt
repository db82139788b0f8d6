use Rattle.std.proofs.Common.{◌≡◌, length}
use Rattle.std.specs.Ptr.{as_ptr}
use Rattle.segment_wire.specs.Options.{placed_options}
use Rattle.segment_wire.proofs.options.PlainOptionsIterator.next.Given as goal

abbrev pub invariant-loop-rest : goal.invariant-loop-rest
invariant-loop-rest l = placed_options (as_ptr l.self.rest) l.self.rest.now ≡ placed_options (as_ptr l.initial.self.rest) l.initial.self.rest.now

abbrev pub decreases-loop-rest : goal.decreases-loop-rest
decreases-loop-rest l = length l.self.rest.now
