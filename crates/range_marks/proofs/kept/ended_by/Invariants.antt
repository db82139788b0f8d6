use Rattle.std.proofs.Common.{ℕ, ◌<◌, ◌≤◌, get_or}
use Rattle.range_marks.specs.declared.run.Run.{Run}
use Rattle.range_marks.proofs.kept.ended_by.Given as goal

abbrev pub invariant-loop-index : goal.invariant-loop-index
invariant-loop-index g l = (j : ℕ) (d : Run g.row.M.Denot) → j < l.index → (get_or l.runs j d).to ≤ l.place
