use Rattle.std.proofs.Common.{◌≡◌, ◌++◌, drop}
use Rattle.byte_pieces.specs.Pieces.{fresh}
use Rattle.byte_pieces.proofs.changes.fresh_parts.Given as goal

abbrev pub invariant-loop-index : goal.invariant-loop-index
invariant-loop-index l = l.parts.items ++ fresh l.next l.rest (drop l.index l.pieces.items) ≡ fresh l.at l.fn.bytes l.pieces.items
