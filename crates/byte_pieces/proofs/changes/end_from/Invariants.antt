use Rattle.std.proofs.Common.{◌≡◌, drop}
use Rattle.byte_pieces.specs.Pieces.{end_past}
use Rattle.byte_pieces.proofs.changes.end_from.Given as goal

abbrev pub invariant-loop-index : goal.invariant-loop-index
invariant-loop-index l = end_past l.end (drop l.index l.pieces.items) ≡ end_past l.reached l.pieces.items
