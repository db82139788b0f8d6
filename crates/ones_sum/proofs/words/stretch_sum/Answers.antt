use Rattle.std.proofs.Common.{arith, ap, w16}
use Rattle.std.proofs.lemmas.List.{take_rest}
use Rattle.std.proofs.lemmas.Simd.{adds_fit, sum_fits, fold-sum}
use Rattle.ones_sum.specs.Words.{word_sum}
use Rattle.ones_sum.proofs.Sums.{word_sum-bound}
use Rattle.ones_sum.proofs.Lanes.{block, highs, lows, highs_bound, lows_bound, block_summed}
use Rattle.ones_sum.proofs.words.stretch_sum.Goals as goal

pub overflow_add-high : goal.overflow_add-high
overflow_add-high c =
    let number = block c.args.octets.now c.loop-at.at in
    adds_fit w16 c.loop-at.high (highs 16 number) (omega (arith, c.loop-at.invariant, highs_bound 16 number))

pub overflow_add-low : goal.overflow_add-low
overflow_add-low c =
    let number = block c.args.octets.now c.loop-at.at in
    adds_fit w16 c.loop-at.low (lows 16 number) (omega (arith, c.loop-at.invariant, lows_bound 16 number))

pub loop-at-preserved : goal.loop-at-preserved
loop-at-preserved c =
    block_summed c.args.octets.now c.loop-at.at c.loop-at.high c.loop-at.low c.type_inv.octets (omega (arith, c.loop-at-test.true)) c.loop-at.invariant

pub overflow_add-high-2 : goal.overflow_add-high-2
overflow_add-high-2 c = sum_fits w16 0 c.loop-at.high (omega (arith, c.loop-at.invariant))

pub overflow_mul-result : goal.overflow_mul-result
overflow_mul-result c = omega (arith, fold-sum 0 c.loop-at.high, c.loop-at.invariant)

pub overflow_add-low-2 : goal.overflow_add-low-2
overflow_add-low-2 c = sum_fits w16 0 c.loop-at.low (omega (arith, c.loop-at.invariant))

pub overflow_add-result : goal.overflow_add-result
overflow_add-result c = omega (arith, fold-sum 0 c.loop-at.high, fold-sum 0 c.loop-at.low, c.loop-at.invariant)

pub overflow_add-result-2 : goal.overflow_add-result-2
overflow_add-result-2 c =
    omega (
      arith,
      c.from.ensures,
      c.from-2.ensures,
      c.last_words.ensures,
      fold-sum 0 c.loop-at.high,
      fold-sum 0 c.loop-at.low,
      ap word_sum (take_rest c.args.octets.now c.loop-at.at),
      c.loop-at.invariant,
      word_sum-bound c.args.octets.now (λ i. omega (arith, c.type_inv.octets i)),
    )

pub returns : goal.returns
returns c =
    omega (
      arith,
      c.from.ensures,
      c.from-2.ensures,
      c.last_words.ensures,
      fold-sum 0 c.loop-at.high,
      fold-sum 0 c.loop-at.low,
      ap word_sum (take_rest c.args.octets.now c.loop-at.at),
      c.loop-at.invariant,
    )
