use Rattle.std.proofs.Common.{◌≡◌, ◌^◌, ◌≤◌, ◌∙◌, sym, subst, arith}
use Rattle.std.proofs.lemmas.List.{at_drop_all}
use Rattle.byte_pieces.specs.declared.piece.Piece.{Piece}
use Rattle.byte_pieces.specs.Pieces.{end_of, side_by_side_end}
use Rattle.byte_pieces.proofs.Ordered.{ordered-bounded, bounded-at}
use Rattle.byte_pieces.proofs.Spreading.{side_by_side_end-here}
use Rattle.byte_pieces.proofs.changes.side_by_side_end.Goals as goal

pub returns-then-piece-end : goal.returns-then-piece-end
returns-then-piece-end c =
    sym (side_by_side_end-here c.loop-index.end c.args.pieces.now.items c.loop-index.index c.index-piece.result.now (omega arith) (subst (λ (p : Piece). p.at ≡ c.loop-index.end → ⊥) c.index-piece.ensures c.if-piece-end.true))
    ∙ c.loop-index.invariant

pub end-end-requires : goal.end-end-requires
end-end-requires c =
    subst (λ (p : Piece). end_of p ≤ 2 ^ 62) (sym c.index-piece.ensures)
    (bounded-at (2 ^ 62) c.args.pieces.now.items c.loop-index.index c.index-piece.result.now (ordered-bounded c.args.from (2 ^ 62) c.args.pieces.now.items c.requires) (omega arith))

pub returns : goal.returns
returns c = sym (at_drop_all (side_by_side_end c.loop-index.end) c.args.pieces.now.items c.loop-index.index (omega arith)) ∙ c.loop-index.invariant
