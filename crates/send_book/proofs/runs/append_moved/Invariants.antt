use Rattle.std.proofs.Common.{◌≡◌, ◌≤◌}
use Rattle.range_marks.specs.Marks.{marks_len, followed_by}
use Rattle.send_book.specs.Kept.{moved_in}
use Rattle.send_book.proofs.runs.append_moved.Given as goal

abbrev pub invariant-loop-run : goal.invariant-loop-run
invariant-loop-run l =
    (goal.iterator-loop-run).can_next l.run-iterator × (goal.iterator-loop-run).is_finite l.run-iterator
    × ((marks_len l.marks ≤ l.to) × (followed_by (moved_in l.change (marks_len l.marks) l.to l.run-iterator) l.marks ≡ followed_by (moved_in l.change (marks_len l.fn.marks) l.to l.fn.runs) l.fn.marks))
