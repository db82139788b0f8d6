use Rattle.std.proofs.Common.{◌≡◌, ◌+◌, drop}
use Rattle.std.specs.List.{sum_by}
use Rattle.byte_pieces.specs.Pieces.{piece_len, fresh}
use Rattle.byte_pieces.proofs.changes.count_fresh.Given as goal

abbrev pub invariant-loop-index : goal.invariant-loop-index
invariant-loop-index l =
    l.count + sum_by piece_len (fresh l.next l.rest (drop l.index l.pieces.items)) ≡ sum_by piece_len (fresh l.at l.bytes l.pieces.items)
