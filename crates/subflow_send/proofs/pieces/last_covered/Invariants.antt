use Rattle.std.proofs.Common.{◌≡◌, ℕ, ◌<◌, ◌≤◌, get_or}
use Rattle.subflow_send.specs.declared.pieces.Piece.{Piece}
use Rattle.subflow_send.specs.Pieces.{piece_end}
use Rattle.subflow_send.proofs.PieceLoops.{sending_before}
use Rattle.subflow_send.proofs.pieces.last_covered.Given as goal

abbrev pub invariant-loop-index : goal.invariant-loop-index
invariant-loop-index l = record {
  before : (k : ℕ) (d : Piece) → k < l.index → piece_end (get_or l.pieces.items k d) ≤ l.pos;
  last_is : l.last ≡ sending_before l.index l.pieces.items;
}
