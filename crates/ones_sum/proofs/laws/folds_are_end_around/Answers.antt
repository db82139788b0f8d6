use Rattle.std.proofs.Common.{ap, ◌∙◌, arith}
use Rattle.ones_sum.specs.Words.{folded}
use Rattle.ones_sum.proofs.Folding.{folded-words}
use Rattle.ones_sum.proofs.laws.folds_are_end_around.Goals as goal

pub returns : goal.returns
returns c = λ octets small. ap folded (omega arith) ∙ folded-words 0 octets small
