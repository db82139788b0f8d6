use Rattle.std.proofs.Common.{◌≡◌}
use Rattle.ones_sum.specs.Words.{folded}
use Rattle.ones_sum.proofs.words.fold.Given as goal

abbrev pub invariant-loop-sum : goal.invariant-loop-sum
invariant-loop-sum l = folded l.sum ≡ folded l.total

abbrev pub decreases-loop-sum : goal.decreases-loop-sum
decreases-loop-sum l = l.sum
