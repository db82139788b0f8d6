use Rattle.std.proofs.Common.{arith}
use Rattle.path_store.proofs.Rising.{rise_behind_last}
use Rattle.path_store.proofs.granted.rises_to.Goals as goal

pub returns-then-last-piece : goal.returns-then-last-piece
returns-then-last-piece c = λ to rise.
    rise_behind_last c.args.pieces.now.items _ c.in-Some.last.now c.args.piece.now (omega arith) c.in-Some.ensures.lookup (grind (arith, c.if-last-piece.true)) (grind (arith, to)) rise
