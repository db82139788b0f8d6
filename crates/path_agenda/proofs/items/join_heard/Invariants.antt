use Rattle.std.proofs.Common.{◌≡◌, drop}
use Rattle.path_agenda.specs.Items.{join_heard}
use Rattle.path_agenda.proofs.items.join_heard.Given as goal

abbrev pub invariant-loop-item : goal.invariant-loop-item
invariant-loop-item l = join_heard l.step (drop l.item-index l.items) ≡ join_heard l.step l.items
