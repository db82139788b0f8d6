use Rattle.std.proofs.Common.{◌≡◌, false}
use Rattle.send_book.specs.Kept.{gathered_in}
use Rattle.send_book.proofs.runs.gathered_in.Given as goal

abbrev pub invariant-loop-run : goal.invariant-loop-run
invariant-loop-run l =
    (goal.iterator-loop-run).can_next l.run-iterator × (goal.iterator-loop-run).is_finite l.run-iterator
    × (gathered_in l.path l.behind l.run-iterator ≡ gathered_in l.path false l.fn.runs)
