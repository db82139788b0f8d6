use Rattle.std.proofs.Common.{◌≡◌, ℕ, ◌<◌, false, get_or}
use Rattle.subflow_send.specs.declared.pieces.Piece.{Piece}
use Rattle.subflow_send.specs.Rules.{stands_at}
use Rattle.subflow_send.specs.Pieces.{piece_record}
use Rattle.subflow_send.proofs.pieces.piece_at.Given as goal

abbrev pub invariant-loop-index : goal.invariant-loop-index
invariant-loop-index l = (k : ℕ) (d : Piece) → k < l.index → stands_at l.pos (piece_record (get_or l.pieces.items k d)) ≡ false
