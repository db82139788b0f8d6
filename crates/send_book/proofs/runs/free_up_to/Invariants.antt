use Rattle.std.proofs.Common.{◌≡◌}
use Rattle.send_book.specs.Kept.{free_up_to}
use Rattle.send_book.proofs.runs.free_up_to.Given as goal

abbrev pub invariant-loop-run : goal.invariant-loop-run
invariant-loop-run l =
    (goal.iterator-loop-run).can_next l.run-iterator × (goal.iterator-loop-run).is_finite l.run-iterator
    × (free_up_to l.path l.end l.run-iterator ≡ free_up_to l.path l.at l.fn.runs)
