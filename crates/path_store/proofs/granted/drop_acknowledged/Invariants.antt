use Rattle.std.proofs.Common.{◌≡◌, length}
use Rattle.std.specs.Prelude.{filter}
use Rattle.path_store.specs.Granted.{is_open}
use Rattle.path_store.specs.Rising.{Rise}
use Rattle.path_store.proofs.granted.drop_acknowledged.Given as goal

abbrev pub invariant-loop-pieces : goal.invariant-loop-pieces
invariant-loop-pieces l = (filter (is_open l.heard) l.pieces.items ≡ filter (is_open l.heard) l.initial.pieces.items) × Rise l.pieces.items

abbrev pub decreases-loop-pieces : goal.decreases-loop-pieces
decreases-loop-pieces l = length l.pieces.items
