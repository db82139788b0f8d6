use Rattle.std.proofs.Common.{arith}
use Rattle.path_agenda.proofs.Done.{in_place}
use Rattle.path_agenda.proofs.agenda.Agenda.replace_first.Goals as goal

pub returns-then-self-len : goal.returns-then-self-len
returns-then-self-len c =
    let within = c.if-self-len.true in let long = c.len.ensures.value
    in rw (c.deref_mut.ensures.value, ← c.self.view_is) (in_place c.self.inside.duties.items c.self.inside.done c.args.duty (omega (arith, within, long)))
