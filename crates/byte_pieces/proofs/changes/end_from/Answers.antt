use Rattle.std.proofs.Common.{◌^◌, ◌-◌, ◌<◌, ◌≤◌, ◌∙◌, ap, sym, subst, arith}
use Rattle.std.proofs.lemmas.List.{at_drop_all}
use Rattle.byte_pieces.specs.declared.piece.Piece.{Piece}
use Rattle.byte_pieces.specs.Pieces.{end_of, end_past}
use Rattle.byte_pieces.proofs.Ordered.{ordered-bounded, bounded-at}
use Rattle.byte_pieces.proofs.Loops.{ordered-rises}
use Rattle.byte_pieces.proofs.Ends.{end_past-begun, end_past-here}
use Rattle.byte_pieces.proofs.changes.end_from.Goals as goal

pub begun_before-requires : goal.begun_before-requires
begun_before-requires c = ordered-rises 0 (2 ^ 62) c.args.pieces.now.items c.requires

pub loop-index-init : goal.loop-index-init
loop-index-init c =
    end_past-begun 0 (2 ^ 62) c.args.reached c.saturating_sub-first.result c.args.pieces.now.items c.requires
    (c.saturating_sub-first.ensures ∙ ap (λ n. n - 1) c.begun_before.ensures.value)

pub returns-then-end-piece : goal.returns-then-end-piece
returns-then-end-piece c =
    sym (end_past-here c.loop-index.end c.args.pieces.now.items c.loop-index.index c.index-piece.result.now (omega arith) (subst (λ (p : Piece). c.loop-index.end < p.at) c.index-piece.ensures c.if-end-piece.true))
    ∙ c.loop-index.invariant

pub end-requires : goal.end-requires
end-requires c =
    subst (λ (p : Piece). end_of p ≤ 2 ^ 62) (sym c.index-piece.ensures)
    (bounded-at (2 ^ 62) c.args.pieces.now.items c.loop-index.index c.index-piece.result.now (ordered-bounded 0 (2 ^ 62) c.args.pieces.now.items c.requires) (omega arith))

pub returns : goal.returns
returns c = sym (at_drop_all (end_past c.loop-index.end) c.args.pieces.now.items c.loop-index.index (omega arith)) ∙ c.loop-index.invariant
