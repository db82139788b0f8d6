use Rattle.std.proofs.Common.{◌+◌, List, subst, arith}
use Rattle.subflow_send.specs.declared.pieces.Piece.{Piece}
use Rattle.subflow_send.specs.Pieces.{IsCounted}
use Rattle.subflow_send.proofs.Counting.{counted-pop, under_way-first}
use Rattle.subflow_send.proofs.queue.PieceQueue.pop_first.Goals as goal

pub invariant_of-self : goal.invariant_of-self
invariant_of-self c =
    let kept = subst (λ (ps : List Piece). IsCounted ps c.self.inside.sent_to c.self.inside.under_way) c.in-Some.ensures.items c.self.invariant in
    let first = under_way-first c.in-Some.first c.pop_front.new.self.items _ _ kept in
    counted-pop c.in-Some.first c.pop_front.new.self.items _ _ _ _ kept c.saturating_sub-self-inside.ensures (omega (arith, first, c.under_way.ensures))

pub invariant_of-self-in-Some-2 : goal.invariant_of-self-in-Some-2
invariant_of-self-in-Some-2 c =
    let kept = subst (λ (ps : List Piece). IsCounted ps c.self.inside.sent_to c.self.inside.under_way) c.in-Some.ensures.items c.self.invariant in
    let first = under_way-first c.in-Some.first c.pop_front.new.self.items _ _ kept in
    counted-pop c.in-Some.first c.pop_front.new.self.items _ _ _ _ kept c.saturating_sub-self-inside.ensures (omega (arith, first, c.under_way.ensures))

pub invariant_of-self-in-Some-3 : goal.invariant_of-self-in-Some-3
invariant_of-self-in-Some-3 c =
    let kept = subst (λ (ps : List Piece). IsCounted ps c.self.inside.sent_to c.self.inside.under_way) c.in-Some.ensures.items c.self.invariant in
    let first = under_way-first c.in-Some.first c.pop_front.new.self.items _ _ kept in
    counted-pop c.in-Some.first c.pop_front.new.self.items _ _ _ _ kept c.saturating_sub-self-inside.ensures (omega (arith, first, c.under_way.ensures))
