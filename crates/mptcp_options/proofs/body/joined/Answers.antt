use Rattle.std.proofs.Common.{length, ap, arith}
use Rattle.std.proofs.lemmas.List.Folds.{length-flat_map-take}
use Rattle.std.specs.Borrow.{Bor}
use Rattle.std.proofs.Common.{ℕ, List, []}
use Rattle.mptcp_options.proofs.body.joined.Goals as goal

pub put-requires : goal.put-requires
put-requires c =
    let octets = λ (piece : Bor (List ℕ)). piece.now in
    omega (
      arith,
      ap length c.loop-piece.invariant,
      length-flat_map-take octets c.args.pieces.now c.loop-piece.piece-index (record { ref_ptr = (0, 0); now = [] }) (omega arith),
    )
