use Rattle.std.proofs.Common.{◌^◌}
use Rattle.byte_pieces.proofs.Loops.{ordered-rises}
use Rattle.byte_pieces.proofs.kept.BytePieces.keep_held.Goals as goal

pub put_pieces-requires-clause-order : goal.put_pieces-requires-clause-order
put_pieces-requires-clause-order c = ordered-rises c.self.inside.from (2 ^ 62) c.self.inside.pieces.items c.self.invariant.0
