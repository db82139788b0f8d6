use Rattle.std.proofs.Common.{◌≡◌, drop}
use Rattle.path_agenda.specs.Items.{keys_heard}
use Rattle.path_agenda.proofs.items.keys_heard.Given as goal

abbrev pub invariant-loop-item : goal.invariant-loop-item
invariant-loop-item l = keys_heard (drop l.item-index l.items) ≡ keys_heard l.items
