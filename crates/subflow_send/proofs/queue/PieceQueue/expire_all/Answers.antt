use Rattle.std.proofs.Common.{List, sym, subst}
use Rattle.subflow_send.specs.declared.pieces.Piece.{Piece}
use Rattle.subflow_send.specs.Pieces.{IsCounted}
use Rattle.subflow_send.proofs.Counting.{counted-all_unsent}
use Rattle.subflow_send.proofs.queue.PieceQueue.expire_all.Goals as goal

pub invariant_of-self : goal.invariant_of-self
invariant_of-self c = subst (λ (ps : List Piece). IsCounted ps 0 0) (sym c.unsend_from.ensures) (counted-all_unsent c.self.inside.items.items)
