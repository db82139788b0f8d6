use Rattle.std.proofs.Common.{◌^◌}
use Rattle.byte_pieces.proofs.Ordered.{ordered-le}
use Rattle.byte_pieces.proofs.kept.BytePieces.start.Goals as goal

pub returns-clause-bound : goal.returns-clause-bound
returns-clause-bound c = ordered-le c.self.inside.from (2 ^ 62) c.self.inside.pieces.items c.self.invariant.0
