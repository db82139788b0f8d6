use Rattle.std.proofs.Common.{arith, ap, refl}
use Rattle.ones_sum.specs.Words.{word_sum}
use Rattle.ones_sum.proofs.Sums.{word_sum-chunk, word_sum-bound}
use Rattle.ones_sum.proofs.words.added.Goals as goal

pub overflow_add-total : goal.overflow_add-total
overflow_add-total c =
    let rest = c.loop-rest.rest.now in
    let cut = word_sum-chunk 0 512 rest refl (omega (arith, c.loop-rest-test.true)) in
    omega (arith, cut, ap word_sum c.split_at.ensures.front, c.stretch_sum.ensures, c.from-total.ensures, c.loop-rest.invariant, c.requires.low, c.requires.few, word_sum-bound c.args.octets.now (λ i. omega (arith, c.type_inv.octets i)))

pub loop-rest-preserved : goal.loop-rest-preserved
loop-rest-preserved c =
    let rest = c.loop-rest.rest.now in
    let cut = word_sum-chunk 0 512 rest refl (omega (arith, c.loop-rest-test.true)) in
    omega (arith, cut, ap word_sum c.split_at.ensures.front, ap word_sum c.split_at.ensures.back, c.stretch_sum.ensures, c.from-total.ensures, c.loop-rest.invariant)

pub overflow_add-result : goal.overflow_add-result
overflow_add-result c = omega (arith, word_sum-bound c.args.octets.now (λ i. omega (arith, c.type_inv.octets i)))
