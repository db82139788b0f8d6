use Rattle.std.proofs.Common.{◌≡◌}
use Rattle.send_book.specs.Kept.{held_in}
use Rattle.send_book.proofs.runs.held_in.Given as goal

abbrev pub invariant-loop-run : goal.invariant-loop-run
invariant-loop-run l =
    (goal.iterator-loop-run).can_next l.run-iterator × (goal.iterator-loop-run).is_finite l.run-iterator
    × (held_in l.path l.count l.run-iterator ≡ held_in l.path 0 l.fn.runs)
