use Rattle.std.proofs.Common.{◌≡◌, ℕ, ◌<◌, false, get_or}
use Rattle.subflow_send.specs.declared.pieces.Piece.{Piece}
use Rattle.subflow_send.specs.Pieces.{is_unsent_piece}
use Rattle.subflow_send.proofs.pieces.next_unsent.Given as goal

abbrev pub invariant-loop-index : goal.invariant-loop-index
invariant-loop-index l = (k : ℕ) (d : Piece) → k < l.index → is_unsent_piece (get_or l.pieces.items k d) ≡ false
