use Rattle.link_model.proofs.Ranges.{ticks_are_short}
use Rattle.link_model.proofs.link.Link.fate.Goals as goal

pub returns-clause-ticks : goal.returns-clause-ticks
returns-clause-ticks c = rw c.fate.ensures (ticks_are_short c.args.from c.args.number c.self.inside.lines c.self.invariant.short_ticks)
