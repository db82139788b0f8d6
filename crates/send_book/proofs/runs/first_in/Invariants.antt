use Rattle.std.proofs.Common.{◌≡◌}
use Rattle.send_book.specs.Kept.{first_in}
use Rattle.send_book.proofs.runs.first_in.Given as goal

abbrev pub invariant-loop-run : goal.invariant-loop-run
invariant-loop-run l =
    (goal.iterator-loop-run).can_next l.run-iterator × (goal.iterator-loop-run).is_finite l.run-iterator
    × (first_in l.path l.run-iterator ≡ first_in l.path l.fn.runs)
