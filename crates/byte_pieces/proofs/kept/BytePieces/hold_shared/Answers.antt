use Rattle.std.proofs.Common.{◌^◌, Some, refl, ap, ◌∙◌, arith, subst, sym, List}
use Rattle.byte_pieces.specs.declared.piece.Piece.{Piece}
use Rattle.byte_pieces.specs.Pieces.{spread, side_by_side_end, with_pieces, AreOrdered}
use Rattle.byte_pieces.proofs.Ordered.{ordered-below}
use Rattle.byte_pieces.proofs.Filling.{is_put_from}
use Rattle.byte_pieces.proofs.kept.BytePieces.hold_shared.Goals as goal

pub fresh_parts-requires : goal.fresh_parts-requires
fresh_parts-requires c = ordered-below c.self.inside.from 0 (2 ^ 62) c.self.inside.pieces.items (omega arith) c.self.invariant.0

pub invariant_of-self-2 : goal.invariant_of-self-2
invariant_of-self-2 c =
    let put = is_put_from c.self.inside.from c.args.at (2 ^ 62) c.max.result c.args.bytes.now c.in_ok-rest.rest c.self.inside.pieces.items c.in_ok-parts.parts.items
    (with_pieces c.in_ok-parts.parts.items c.self.inside.pieces.items) c.self.invariant.0 c.requires c.max.ensures c.in_ok-rest.ensures c.in_ok-parts.ensures refl in (
      subst (AreOrdered c.self.inside.from (2 ^ 62)) (sym c.in_ok-reserve.ensures.items) c.self.invariant.0,
      (
        subst (λ (ps : List Piece). AreOrdered c.self.inside.from (2 ^ 62) (with_pieces c.in_ok-parts.parts.items ps)) (sym c.in_ok-reserve.ensures.items) put.order,
        omega (arith, c.in_ok-reserve.ensures.ok, c.in_ok-reserve.ensures.len, c.len.ensures),
      ),
      c.self.invariant.2 ∙ ap (side_by_side_end c.self.inside.from) (sym c.in_ok-reserve.ensures.items),
    )

pub returns-clause-ok : goal.returns-clause-ok
returns-clause-ok c =
    let put = is_put_from c.self.inside.from c.args.at (2 ^ 62) c.max.result c.args.bytes.now c.in_ok-rest.rest c.self.inside.pieces.items c.in_ok-parts.parts.items
    (with_pieces c.in_ok-parts.parts.items c.self.inside.pieces.items) c.self.invariant.0 c.requires c.max.ensures c.in_ok-rest.ensures c.in_ok-parts.ensures refl in
    rw (← c.self.view_is)
    (ap (λ (ps : List Piece). record { from = c.self.inside.from; places = spread c.self.inside.from ps; incoming = Some (spread c.self.inside.from (with_pieces c.in_ok-parts.parts.items ps)) }) c.in_ok-reserve.ensures.items
    ∙ ap (λ places. record { from = c.self.inside.from; places = spread c.self.inside.from c.self.inside.pieces.items; incoming = Some places }) put.places)
