use Rattle.std.proofs.Common.{◌≡◌, length}
use Rattle.call_vectors.proofs.time_cases.sums.octets.Given as goal

abbrev pub invariant-loop-place : goal.invariant-loop-place
invariant-loop-place l = length l.octets.items ≡ l.place
