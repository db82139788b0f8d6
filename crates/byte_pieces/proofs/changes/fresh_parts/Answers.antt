use Rattle.std.proofs.Common.{◌≡◌, ◌^◌, ◌≤◌, ◌-◌, ◌++◌, [], List, length, drop, ap, ◌∙◌, sym, subst, arith, append-nil}
use Rattle.std.proofs.lemmas.List.{nil_from_length}
use Rattle.byte_pieces.specs.declared.piece.Piece.{Piece}
use Rattle.byte_pieces.specs.Pieces.{end_of, fresh}
use Rattle.byte_pieces.proofs.Ordered.{is_zero, ordered-bounded, bounded-at}
use Rattle.byte_pieces.proofs.Filling.{fresh-begun, fresh-nothing}
use Rattle.byte_pieces.proofs.Fresh.{fresh-step, fresh-last}
use Rattle.byte_pieces.proofs.Loops.{ordered-rises}
use Rattle.byte_pieces.proofs.changes.fresh_parts.Goals as goal

pub begun_before-requires : goal.begun_before-requires
begun_before-requires c = ordered-rises 0 (2 ^ 62) c.args.pieces.now.items c.requires

pub loop-index-init : goal.loop-index-init
loop-index-init c =
    ap (λ (parts : List Piece). parts ++ fresh c.args.at c.args.bytes (drop c.saturating_sub-first.result c.args.pieces.now.items)) c.new-parts.ensures.items
    ∙ fresh-begun 0 (2 ^ 62) c.args.at c.args.bytes c.args.pieces.now.items c.saturating_sub-first.result c.requires
    (c.saturating_sub-first.ensures ∙ ap (λ n. n - 1) c.begun_before.ensures.value)

pub returns-then-is_empty : goal.returns-then-is_empty
returns-then-is_empty c =
    let none : c.loop-index.rest ≡ [] = nil_from_length c.loop-index.rest (is_zero (length c.loop-index.rest) (sym c.is_empty.ensures ∙ c.if-is_empty.true)) in
    sym (append-nil c.loop-index.parts.items)
    ∙ ap (λ (more : List Piece). c.loop-index.parts.items ++ more) (sym (ap (λ rest. fresh c.loop-index.next rest (drop c.loop-index.index c.args.pieces.now.items)) none ∙ fresh-nothing c.loop-index.next (drop c.loop-index.index c.args.pieces.now.items)))
    ∙ c.loop-index.invariant

pub end-requires : goal.end-requires
end-requires c =
    subst (λ (p : Piece). end_of p ≤ 2 ^ 62) (sym c.index-piece.ensures)
    (bounded-at (2 ^ 62) c.args.pieces.now.items c.loop-index.index c.index-piece.result.now (ordered-bounded 0 (2 ^ 62) c.args.pieces.now.items c.requires) (omega arith))

pub end-requires-in-loop-index : goal.end-requires-in-loop-index
end-requires-in-loop-index c =
    subst (λ (p : Piece). end_of p ≤ 2 ^ 62) (sym c.index-piece.ensures)
    (bounded-at (2 ^ 62) c.args.pieces.now.items c.loop-index.index c.index-piece.result.now (ordered-bounded 0 (2 ^ 62) c.args.pieces.now.items c.requires) (omega arith))

pub loop-index-preserved : goal.loop-index-preserved
loop-index-preserved c =
    rw c.in_ok-push_part.ensures
    (fresh-step c.loop-index.next c.min-gap.result c.min-known.result c.max-next.result c.loop-index.index c.loop-index.rest c.in_ok-slice.field-0 c.advance.new.self
    c.loop-index.parts.items c.index-piece.result.now c.args.pieces.now.items (omega arith) c.index-piece.ensures
    (omega (arith, c.min-gap.ensures, c.saturating_sub.ensures, c.len.ensures.value))
    (omega (arith, c.min-known.ensures, c.saturating_sub-in-loop-index.ensures, c.end.ensures)) c.in_ok-slice.ensures.ok c.advance.ensures (omega (arith, c.max-next.ensures, c.end-in-loop-index.ensures))
    ∙ c.loop-index.invariant)

pub returns : goal.returns
returns c =
    c.in_ok-push_part-2.ensures
    ∙ fresh-last c.loop-index.next c.loop-index.index c.loop-index.rest c.loop-index.parts.items c.args.pieces.now.items (omega arith)
    ∙ c.loop-index.invariant
