use Rattle.std.proofs.Common.{All}
use Rattle.linked_increase.specs.Paths.{IsInRange}
use Rattle.call_vectors.proofs.increase_cases.rows_of.Given as goal

abbrev pub invariant-loop-place : goal.invariant-loop-place
invariant-loop-place l = All IsInRange l.rows
