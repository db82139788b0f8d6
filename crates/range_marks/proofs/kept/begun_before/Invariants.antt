use Rattle.std.proofs.Common.{ℕ, ◌<◌, get_or}
use Rattle.range_marks.specs.declared.run.Run.{Run}
use Rattle.range_marks.proofs.kept.begun_before.Given as goal

abbrev pub invariant-loop-index : goal.invariant-loop-index
invariant-loop-index g l = (j : ℕ) (d : Run g.row.M.Denot) → j < l.index → (get_or l.runs j d).from < l.place
