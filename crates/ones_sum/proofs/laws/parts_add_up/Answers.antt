use Rattle.ones_sum.proofs.Sums.{word_sum-append}
use Rattle.ones_sum.proofs.laws.parts_add_up.Goals as goal

pub returns : goal.returns
returns c = word_sum-append
