use Rattle.std.proofs.Common.{◌^◌, None, ap, sym, ◌∙◌, arith}
use Rattle.byte_pieces.proofs.Cutting.{spread-from, ordered-from, side_by_side_end-from}
use Rattle.byte_pieces.proofs.kept.BytePieces.drop_front.Goals as goal

pub side_by_side_end-self-inside-requires : goal.side_by_side_end-self-inside-requires
side_by_side_end-self-inside-requires c =
    rw c.drop_pieces.ensures (ordered-from c.self.inside.from c.args.to (2 ^ 62) c.self.inside.pieces.items c.self.invariant.0 c.requires.bound)

pub invariant_of-self : goal.invariant_of-self
invariant_of-self c =
    let end = rw c.drop_pieces.ensures at c.side_by_side_end-self-inside.ensures in
    rw c.drop_pieces.ensures (ordered-from c.self.inside.from c.args.to (2 ^ 62) c.self.inside.pieces.items c.self.invariant.0 c.requires.bound, tt, end)

pub invariant_of-self-else-self-to : goal.invariant_of-self-else-self-to
invariant_of-self-else-self-to c =
    let order = rw (← c.self.view_is) at c.requires.order in
    rw c.drop_pieces.ensures (
      ordered-from c.self.inside.from c.args.to (2 ^ 62) c.self.inside.pieces.items c.self.invariant.0 c.requires.bound,
      tt,
      c.self.invariant.2
          ∙ sym (side_by_side_end-from c.self.inside.from c.args.to (2 ^ 62) c.self.inside.pieces.items c.self.invariant.0 order c.requires.bound (omega (arith, c.if-self-to.false, c.self.invariant.2))),
    )

pub returns-then-self-to : goal.returns-then-self-to
returns-then-self-to c =
    let order = rw (← c.self.view_is) at c.requires.order in
    rw (← c.self.view_is, c.drop_pieces.ensures)
    (ap (λ places. record { from = c.args.to; places = places; incoming = None }) (spread-from c.self.inside.from c.args.to (2 ^ 62) c.self.inside.pieces.items c.self.invariant.0 order))

pub returns-else-self-to : goal.returns-else-self-to
returns-else-self-to c =
    let order = rw (← c.self.view_is) at c.requires.order in
    rw (← c.self.view_is, c.drop_pieces.ensures)
    (ap (λ places. record { from = c.args.to; places = places; incoming = None }) (spread-from c.self.inside.from c.args.to (2 ^ 62) c.self.inside.pieces.items c.self.invariant.0 order))
