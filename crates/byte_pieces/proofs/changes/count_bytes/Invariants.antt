use Rattle.std.proofs.Common.{◌≡◌, ◌+◌, drop}
use Rattle.std.specs.List.{sum_by}
use Rattle.byte_pieces.specs.Pieces.{piece_len}
use Rattle.byte_pieces.proofs.changes.count_bytes.Given as goal

abbrev pub invariant-loop-index : goal.invariant-loop-index
invariant-loop-index l = l.count + sum_by piece_len (drop l.index l.pieces.items) ≡ sum_by piece_len l.pieces.items
