use Rattle.std.proofs.Common.{◌≡◌, max, drop}
use Rattle.path_store.specs.Granted.{granted_to}
use Rattle.path_store.proofs.granted.granted_to.Given as goal

abbrev pub invariant-loop-piece : goal.invariant-loop-piece
invariant-loop-piece l = max l.to (granted_to (drop l.piece-index l.granted)) ≡ granted_to l.granted
