use Rattle.std.proofs.Common.{◌≡◌, drop}
use Rattle.byte_pieces.specs.Pieces.{side_by_side_end}
use Rattle.byte_pieces.proofs.changes.side_by_side_end.Given as goal

abbrev pub invariant-loop-index : goal.invariant-loop-index
invariant-loop-index l = side_by_side_end l.end (drop l.index l.pieces.items) ≡ side_by_side_end l.from l.pieces.items
