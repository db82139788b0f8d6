use Rattle.path_agenda.proofs.Done.{one_more}
use Rattle.path_agenda.proofs.agenda.Agenda.pop.Goals as goal

pub returns-then-self-len : goal.returns-then-self-len
returns-then-self-len c = rw (← c.self.view_is) (one_more c.self.inside.duties.items c.self.inside.done)
