use Rattle.std.proofs.Common.{◌≡◌, ◌+◌, ◌≤◌, length}
use Rattle.std.specs.List.Sorted.{IsNonDecreasingBy}
use Rattle.std.specs.VecDeque.{deque_len, deque_capacity}
use Rattle.byte_pieces.specs.Pieces.{with_pieces}
use Rattle.byte_pieces.proofs.changes.put_pieces.Given as goal

abbrev pub invariant-loop-part : goal.invariant-loop-part
invariant-loop-part l = record {
  put : with_pieces l.parts.items l.pieces.items ≡ with_pieces l.initial.parts.items l.initial.pieces.items;
  order : IsNonDecreasingBy (λ p. p.at) l.pieces.items;
  room : deque_len l.pieces + deque_len l.parts ≤ deque_capacity l.pieces;
}

abbrev pub decreases-loop-part : goal.decreases-loop-part
decreases-loop-part l = length l.parts.items
