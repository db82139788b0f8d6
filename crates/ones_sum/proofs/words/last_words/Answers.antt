use Rattle.std.proofs.Common.{arith}
use Rattle.ones_sum.proofs.Sums.{word_sum-bound}
use Rattle.ones_sum.proofs.words.last_words.Goals as goal

pub overflow_add-total : goal.overflow_add-total
overflow_add-total c = omega (arith, word_sum-bound c.args.octets.now (λ i. omega (arith, c.type_inv.octets i)))

pub overflow_add-total-in-len1 : goal.overflow_add-total-in-len1
overflow_add-total-in-len1 c = omega (arith, word_sum-bound c.args.octets.now (λ i. omega (arith, c.type_inv.octets i)))
