use Rattle.std.proofs.Common.{◌≡◌, ◌-◌}
use Rattle.subflow_send.proofs.PieceLoops.{unsent_between}
use Rattle.subflow_send.proofs.pieces.unsend_from.Given as goal

abbrev pub invariant-loop-index : goal.invariant-loop-index
invariant-loop-index l = l.pieces.items ≡ unsent_between l.from (l.index - l.from) l.initial.pieces.items
