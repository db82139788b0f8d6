use Rattle.ruled_desk.proofs.Words.{sym, ◌∙◌, ap, arith}
use Rattle.ruled_desk.proofs.RuleSteps.{draws}
use Rattle.ruled_desk.proofs.lock.RuledLock.draw.Goals as goal

pub fetch_add-requires : goal.fetch_add-requires
fetch_add-requires g c = (
  c.requires.table ∙ sym (ap (λ l. l.table) c.self.view_is),
  omega (arith, c.self.invariant.0),
  draws c.self.inside.table.shared.key.value c.self.inside.table.shared.table_id.slots c.args.seat.now.id c.args.seat.now.me c.requires.parts c.requires.rests,
)
