use Rattle.std.proofs.Common.{◌^◌, ◌≤◌, ◌∙◌, sym, subst}
use Rattle.byte_pieces.proofs.Spreading.{side_by_side_end-is, side_by_side_end-le}
use Rattle.byte_pieces.proofs.kept.BytePieces.in_order_end.Goals as goal

pub returns-clause-value : goal.returns-clause-value
returns-clause-value c =
    rw (← c.self.view_is)
    (c.self.invariant.2 ∙ side_by_side_end-is c.self.inside.from (2 ^ 62) c.self.inside.pieces.items c.self.invariant.0)

pub returns-clause-bound : goal.returns-clause-bound
returns-clause-bound c = subst (λ n. n ≤ 2 ^ 62) (sym c.self.invariant.2) (side_by_side_end-le c.self.inside.from (2 ^ 62) c.self.inside.pieces.items c.self.invariant.0)
