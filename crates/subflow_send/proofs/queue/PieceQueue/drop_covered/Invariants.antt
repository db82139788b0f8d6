use Rattle.std.proofs.Common.{◌≡◌, length}
use Rattle.subflow_send.specs.Pieces.{uncovered_pieces}
use Rattle.subflow_send.proofs.queue.PieceQueue.drop_covered.Given as goal

abbrev pub invariant-loop-self : goal.invariant-loop-self
invariant-loop-self l = uncovered_pieces l.pos l.self ≡ uncovered_pieces l.pos l.initial.self

abbrev pub decreases-loop-self : goal.decreases-loop-self
decreases-loop-self l = length l.self
