use Rattle.std.proofs.Common.{◌≡◌, drop}
use Rattle.path_store.specs.Granted.{rises_from}
use Rattle.path_store.proofs.granted.rises_from.Given as goal

abbrev pub invariant-loop-index : goal.invariant-loop-index
invariant-loop-index l = rises_from l.before (drop l.index l.pieces.items) l.end ≡ rises_from l.fn.first (drop 1 l.pieces.items) l.end
