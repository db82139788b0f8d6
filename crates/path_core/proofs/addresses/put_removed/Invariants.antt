use Rattle.path_core.proofs.Words.{◌≡◌, ◌++◌, map, drop, item_removed}
use Rattle.path_core.proofs.addresses.put_removed.Given as goal

abbrev pub invariant-loop-id : goal.invariant-loop-id
invariant-loop-id l = l.items.items ++ map item_removed (drop l.id-index l.ids) ≡ l.initial.items.items ++ map item_removed l.ids
