use Rattle.std.proofs.Common.{◌≡◌, []}
use Rattle.path_agenda.specs.Agenda.{heard_and}
use Rattle.path_agenda.proofs.templates.things_heard.Given as goal

abbrev pub invariant-loop-index : goal.invariant-loop-index
invariant-loop-index l = l.things.items ≡ heard_and l.side 0 l.index []
