use Rattle.std.proofs.Common.{◌≡◌}
use Rattle.range_marks.specs.Marks.{marks_len}
use Rattle.call_vectors.proofs.time_cases.marks.alternating.Given as goal

abbrev pub invariant-loop-place : goal.invariant-loop-place
invariant-loop-place l = marks_len l.marks ≡ l.place
