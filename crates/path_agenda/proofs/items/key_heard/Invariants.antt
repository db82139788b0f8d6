use Rattle.std.proofs.Common.{◌≡◌, drop}
use Rattle.path_agenda.specs.Items.{key_heard}
use Rattle.path_agenda.proofs.items.key_heard.Given as goal

abbrev pub invariant-loop-item : goal.invariant-loop-item
invariant-loop-item l = key_heard (drop l.item-index l.items) ≡ key_heard l.items
