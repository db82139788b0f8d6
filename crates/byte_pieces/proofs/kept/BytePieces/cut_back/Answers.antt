use Rattle.std.proofs.Common.{◌^◌, None, ap, arith}
use Rattle.byte_pieces.proofs.Ordered.{ordered-below}
use Rattle.byte_pieces.proofs.Cutting.{spread-below, ordered-below_cut}
use Rattle.byte_pieces.proofs.kept.BytePieces.cut_back.Goals as goal

pub cut_pieces-requires : goal.cut_pieces-requires
cut_pieces-requires c = ordered-below c.self.inside.from 0 (2 ^ 62) c.self.inside.pieces.items (omega arith) c.self.invariant.0

pub side_by_side_end-self-inside-requires : goal.side_by_side_end-self-inside-requires
side_by_side_end-self-inside-requires c =
    rw c.cut_pieces.ensures (ordered-below_cut c.self.inside.from c.args.to (2 ^ 62) c.self.inside.pieces.items c.self.invariant.0)

pub invariant_of-self : goal.invariant_of-self
invariant_of-self c =
    let end = rw c.cut_pieces.ensures at c.side_by_side_end-self-inside.ensures in
    rw c.cut_pieces.ensures (ordered-below_cut c.self.inside.from c.args.to (2 ^ 62) c.self.inside.pieces.items c.self.invariant.0, tt, end)

pub returns : goal.returns
returns c =
    let order = rw (← c.self.view_is) at c.requires in
    rw (← c.self.view_is, c.cut_pieces.ensures)
    (ap (λ places. record { from = c.self.inside.from; places = places; incoming = None }) (spread-below c.self.inside.from c.args.to (2 ^ 62) c.self.inside.pieces.items c.self.invariant.0 order))
