use Rattle.std.proofs.Common.{arith}
use Rattle.ones_sum.proofs.Sums.{word_sum-append, word_sum-bound}
use Rattle.ones_sum.proofs.words.sum_more.Goals as goal

pub returns-clause-goes_on : goal.returns-clause-goes_on
returns-clause-goes_on c = λ before even summed. omega (arith, word_sum-append before c.args.octets.now even)

pub returns-clause-bounded : goal.returns-clause-bounded
returns-clause-bounded c = omega (arith, word_sum-bound c.args.octets.now (λ i. omega (arith, c.type_inv.octets i)))
