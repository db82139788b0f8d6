use Rattle.std.proofs.Common.{◌∙◌, ap, ◌+◌, ◌/◌, ℕ}
use Rattle.std.proofs.lemmas.Nat.{and_mask}
use Rattle.ones_sum.specs.Words.{folded}
use Rattle.ones_sum.proofs.Folding.{folded-carried}
use Rattle.ones_sum.proofs.words.fold.Goals as goal

pub loop-sum-preserved : goal.loop-sum-preserved
loop-sum-preserved c =
    let sum = c.loop-sum.sum in
    ap (λ (low : ℕ). folded (low + sum / 65536)) (and_mask sum 16) ∙ folded-carried sum ∙ c.loop-sum.invariant
