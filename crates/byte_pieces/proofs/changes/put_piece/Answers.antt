use Rattle.std.proofs.Common.{◌∙◌}
use Rattle.byte_pieces.proofs.Loops.{insert-begun, with_piece-rises}
use Rattle.byte_pieces.proofs.changes.put_piece.Goals as goal

pub returns-clause-items : goal.returns-clause-items
returns-clause-items c = c.insert_at.ensures.items ∙ insert-begun c.args.piece c.args.pieces.now.items _ c.begun_before-index.ensures.value

pub returns-clause-order : goal.returns-clause-order
returns-clause-order c =
    rw (c.insert_at.ensures.items, insert-begun c.args.piece c.args.pieces.now.items _ c.begun_before-index.ensures.value)
    (with_piece-rises c.args.piece c.args.pieces.now.items c.requires.order)
