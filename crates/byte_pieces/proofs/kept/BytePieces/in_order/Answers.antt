use Rattle.std.proofs.Common.{◌^◌}
use Rattle.byte_pieces.proofs.Ordered.{ordered-bounded}
use Rattle.byte_pieces.proofs.Spreading.{concat-side_by_side, some-side_by_side}
use Rattle.byte_pieces.proofs.kept.BytePieces.in_order.Goals as goal

pub of-requires : goal.of-requires
of-requires c = ordered-bounded c.self.inside.from (2 ^ 62) c.self.inside.pieces.items c.self.invariant.0

pub returns-clause-bytes : goal.returns-clause-bytes
returns-clause-bytes c =
    rw (← c.self.view_is, c.of.ensures) (concat-side_by_side c.self.inside.from (2 ^ 62) c.self.inside.pieces.items c.self.invariant.0)

pub returns-clause-some : goal.returns-clause-some
returns-clause-some c =
    rw c.of.ensures (some-side_by_side c.self.inside.from (2 ^ 62) c.self.inside.pieces.items c.self.invariant.0)
