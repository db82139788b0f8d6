use Rattle.std.proofs.Common.{ℕ, List, [], ◌∷◌, ◌++◌, refl, arith}
use Rattle.std.specs.Int.{w32, to_be_bytes}
use Rattle.ones_sum.proofs.Sums.{word_sum-append}
use Rattle.segment_wire.proofs.Sums.{behind_addresses}
use Rattle.segment_wire.proofs.between.plain_sum.Goals as goal

pub returns-clause-value : goal.returns-clause-value
returns-clause-value c =
    let len : List ℕ = to_be_bytes w32 c.args.segment_len in
    let protocol : List ℕ = 0 ∷ 0 ∷ 0 ∷ 6 ∷ [] in
    let through_len = rw c.to_be_bytes.ensures at c.sum_more-through_len.ensures.adds in
    omega (
      arith,
      through_len,
      c.sum_more.ensures.adds,
      word_sum-append len protocol refl,
      behind_addresses c.args.source.now c.args.destination.now (len ++ protocol) c.requires.source.even c.requires.destination.even,
    )
