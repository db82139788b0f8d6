use Rattle.std.proofs.Common.{◌^◌, ◌≤◌, ◌-◌, refl, ap, ◌∙◌, sym, subst, arith}
use Rattle.std.specs.VecDeque.{deque_len}
use Rattle.byte_pieces.specs.declared.piece.Piece.{Piece}
use Rattle.byte_pieces.specs.Pieces.{end_of}
use Rattle.byte_pieces.proofs.Ordered.{ordered-bounded, bounded-at, last_end-is}
use Rattle.byte_pieces.proofs.Spreading.{length-spread}
use Rattle.byte_pieces.proofs.kept.BytePieces.top.Goals as goal

pub end-requires : goal.end-requires
end-requires c =
    let some = c.in-Some.ensures.variant.0 refl in
    subst (λ (p : Piece). end_of p ≤ 2 ^ 62) (sym c.in-Some.ensures.lookup)
    (bounded-at (2 ^ 62) c.self.inside.pieces.items _ c.in-Some.last.now (ordered-bounded c.self.inside.from (2 ^ 62) c.self.inside.pieces.items c.self.invariant.0) (omega (arith, some)))

pub returns-in-Some-clause-value : goal.returns-in-Some-clause-value
returns-in-Some-clause-value c =
    let some = c.in-Some.ensures.variant.0 refl in
    rw (← c.self.view_is)
    (c.end.ensures
    ∙ ap end_of c.in-Some.ensures.lookup
    ∙ sym (length-spread c.self.inside.from (2 ^ 62) c.self.inside.pieces.items c.self.invariant.0 ∙ last_end-is c.self.inside.from (deque_len c.self.inside.pieces - 1) c.self.inside.pieces.items c.in-Some.last.now (omega (arith, some))))

pub returns-in-Some-clause-bound : goal.returns-in-Some-clause-bound
returns-in-Some-clause-bound c =
    let some = c.in-Some.ensures.variant.0 refl in
    subst (λ n. n ≤ 2 ^ 62) (sym (c.end.ensures ∙ ap end_of c.in-Some.ensures.lookup))
    (bounded-at (2 ^ 62) c.self.inside.pieces.items _ c.in-Some.last.now (ordered-bounded c.self.inside.from (2 ^ 62) c.self.inside.pieces.items c.self.invariant.0) (omega (arith, some)))
