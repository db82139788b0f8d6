use Rattle.std.proofs.Common.{◌≡◌, ◌%◌, ◌++◌, length, ap, ◌∙◌, arith, List, ℕ}
use Rattle.ones_sum.specs.Words.{folded, word_sum}
use Rattle.segment_wire.specs.Checksum.{covered_sum}
use Rattle.segment_wire.proofs.checksum.covered_sum.Goals as goal

pub returns : goal.returns
unfolding covered_sum
returns c =
    let even : length c.pseudo_header.result % 2 ≡ 0 = omega arith in
    c.fold.ensures ∙ ap folded (c.sum_more.ensures.goes_on c.pseudo_header.result even c.sum-before.ensures.value)
    ∙ ap (λ (before : List ℕ). folded (word_sum (before ++ c.args.segment.now))) c.pseudo_header.ensures
