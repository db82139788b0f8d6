use Rattle.std.proofs.Common.{◌≡◌, ◌<◌, length}
use Rattle.call_vectors.proofs.time_cases.sums.copied.Given as goal

abbrev pub invariant-loop-turn : goal.invariant-loop-turn
invariant-loop-turn l = (l.sum < 65536) × (length l.octets ≡ length l.fn.octets) × (length l.copy ≡ length l.octets)
