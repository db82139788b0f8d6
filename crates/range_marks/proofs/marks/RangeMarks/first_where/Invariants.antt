use Rattle.std.proofs.Common.{◌≢◌, ℕ, ◌<◌, get_or}
use Rattle.range_marks.specs.declared.run.Run.{Run}
use Rattle.range_marks.proofs.marks.RangeMarks.first_where.Given as goal

abbrev pub invariant-loop-run : goal.invariant-loop-run
invariant-loop-run g l = (k : ℕ) (d : Run g.row.M.Denot) → k < l.run-index → l.from < (get_or l.run-items k d).to → (get_or l.run-items k d).mark ≢ l.test
