use Rattle.std.proofs.Common.{◌≡◌, drop}
use Rattle.path_agenda.specs.Items.{place_in_first}
use Rattle.path_agenda.proofs.items.place_in_first.Given as goal

abbrev pub invariant-loop-index : goal.invariant-loop-index
invariant-loop-index l = place_in_first (drop l.index l.items) ≡ place_in_first l.items
