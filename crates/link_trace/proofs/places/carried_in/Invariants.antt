use Rattle.std.proofs.Common.{◌≡◌}
use Rattle.link_trace.specs.Places.{carried_in}
use Rattle.link_trace.proofs.places.carried_in.Given as goal

abbrev pub invariant-loop-run : goal.invariant-loop-run
invariant-loop-run l =
    (goal.iterator-loop-run).can_next l.run-iterator × (goal.iterator-loop-run).is_finite l.run-iterator
    × (carried_in l.edge l.count l.run-iterator ≡ carried_in l.edge 0 l.fn.runs)
