use Rattle.std.proofs.Common.{◌≡◌, length}
use Rattle.byte_pieces.specs.Pieces.{pieces_from}
use Rattle.byte_pieces.proofs.changes.drop_pieces.Given as goal

abbrev pub invariant-loop-first : goal.invariant-loop-first
invariant-loop-first l = pieces_from l.to l.pieces.items ≡ pieces_from l.to l.initial.pieces.items

abbrev pub decreases-loop-first : goal.decreases-loop-first
decreases-loop-first l = length l.pieces.items
