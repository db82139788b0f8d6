use Rattle.std.proofs.Common.{◌≡◌, ℕ, ◌%◌, List, [], ◌∷◌, ◌++◌, length, refl, ap, ◌∙◌}
use Rattle.std.specs.Int.{w32, to_be_bytes}
use Rattle.ones_sum.specs.Words.{folded}
use Rattle.segment_wire.proofs.Sums.{even_behind}
use Rattle.segment_wire.specs.Between.{covered_sum_between, pseudo_header_between}
use Rattle.segment_wire.proofs.between.covered_sum_between.Goals as goal

pub returns : goal.returns
unfolding covered_sum_between
returns c =
    let s : List ℕ = c.args.source.now in
    let d : List ℕ = c.args.destination.now in
    let n : ℕ = length c.args.segment.now in
    let even : length (pseudo_header_between s d n) % 2 ≡ 0 =
    even_behind s d (to_be_bytes w32 n ++ (0 ∷ 0 ∷ 0 ∷ 6 ∷ [])) c.requires.source.even c.requires.destination.even refl in
    c.fold.ensures ∙ ap folded (c.sum_more.ensures.goes_on (pseudo_header_between s d n) even c.plain_sum-before.ensures.value)
