use Rattle.std.proofs.Common.{◌≡◌, ◌^◌, ◌-◌, ◌≤◌, min, [], drop, length, refl, ap, ◌∙◌, subst, sym, arith}
use Rattle.std.specs.List.{sum_by}
use Rattle.std.proofs.lemmas.List.{nil_from_length}
use Rattle.byte_pieces.specs.declared.piece.Piece.{Piece}
use Rattle.byte_pieces.specs.Pieces.{end_of, piece_len}
use Rattle.byte_pieces.proofs.Ordered.{ordered-bounded, bounded-at}
use Rattle.byte_pieces.proofs.Loops.{ordered-rises}
use Rattle.byte_pieces.proofs.Ordered.{is_zero}
use Rattle.byte_pieces.proofs.Filling.{fresh-begun, sum-fresh}
use Rattle.byte_pieces.proofs.Counting.{count-step, count-nothing, count-last}
use Rattle.byte_pieces.proofs.changes.count_fresh.Goals as goal

pub begun_before-requires : goal.begun_before-requires
begun_before-requires c = ordered-rises 0 (2 ^ 62) c.args.pieces.now.items c.requires.order

pub end-requires : goal.end-requires
end-requires c =
    subst (λ (p : Piece). end_of p ≤ 2 ^ 62) (sym c.index-piece.ensures)
    (bounded-at (2 ^ 62) c.args.pieces.now.items c.loop-index.index c.index-piece.result.now (ordered-bounded 0 (2 ^ 62) c.args.pieces.now.items c.requires.order) (omega arith))

pub end-requires-in-loop-index : goal.end-requires-in-loop-index
end-requires-in-loop-index c =
    subst (λ (p : Piece). end_of p ≤ 2 ^ 62) (sym c.index-piece.ensures)
    (bounded-at (2 ^ 62) c.args.pieces.now.items c.loop-index.index c.index-piece.result.now (ordered-bounded 0 (2 ^ 62) c.args.pieces.now.items c.requires.order) (omega arith))

pub loop-index-init : goal.loop-index-init
loop-index-init c =
    let same = ap (sum_by piece_len) (fresh-begun 0 (2 ^ 62) c.args.at c.args.bytes.now c.args.pieces.now.items c.saturating_sub-first.result c.requires.order
    (c.saturating_sub-first.ensures ∙ ap (λ n. n - 1) c.begun_before.ensures.value)) in
    omega (arith, same)

pub returns-then-is_empty : goal.returns-then-is_empty
returns-then-is_empty c =
    let none : c.loop-index.rest.now ≡ [] = nil_from_length c.loop-index.rest.now (is_zero (length c.loop-index.rest.now) (sym c.is_empty.ensures ∙ c.if-is_empty.true)) in
    omega (arith, c.loop-index.invariant, count-nothing c.loop-index.next c.loop-index.rest.now (drop c.loop-index.index c.args.pieces.now.items) none)

pub loop-index-preserved : goal.loop-index-preserved
loop-index-preserved c =
    count-step c.loop-index.count c.loop-index.next c.min-gap.result c.min-known.result c.max-next.result c.loop-index.index c.loop-index.rest.now _
    c.index-piece.result.now c.args.pieces.now.items (omega arith) c.index-piece.ensures (omega (arith, c.min-gap.ensures, c.saturating_sub.ensures))
    (omega (arith, c.min-known.ensures, c.saturating_sub-in-loop-index.ensures, c.end.ensures)) refl (omega (arith, c.max-next.ensures, c.end-in-loop-index.ensures))
    ∙ c.loop-index.invariant

pub overflow_add-count : goal.overflow_add-count
overflow_add-count c =
    let step = count-step c.loop-index.count c.loop-index.next c.min-gap.result (min (length c.loop-index.rest.now) (end_of c.index-piece.result.now - c.loop-index.next)) _
    c.loop-index.index c.loop-index.rest.now _ c.index-piece.result.now c.args.pieces.now.items (omega arith) c.index-piece.ensures
    (omega (arith, c.min-gap.ensures, c.saturating_sub.ensures)) refl refl refl in
    omega (arith, step, c.loop-index.invariant, sum-fresh c.args.at c.args.bytes.now c.args.pieces.now.items, c.requires.few)

pub overflow_add-result : goal.overflow_add-result
overflow_add-result c =
    let last = count-last c.loop-index.next c.loop-index.index c.loop-index.rest.now c.args.pieces.now.items (omega arith) in
    omega (arith, last, c.loop-index.invariant, sum-fresh c.args.at c.args.bytes.now c.args.pieces.now.items, c.requires.few)

pub returns : goal.returns
returns c =
    let last = count-last c.loop-index.next c.loop-index.index c.loop-index.rest.now c.args.pieces.now.items (omega arith) in
    omega (arith, last, c.loop-index.invariant)
