use Rattle.std.proofs.Common.{◌≤◌}
use Rattle.call_vectors.proofs.flow_cases.take_all.Given as goal

abbrev pub invariant-loop-packet : goal.invariant-loop-packet
invariant-loop-packet l = l.seen.last ≤ l.last
