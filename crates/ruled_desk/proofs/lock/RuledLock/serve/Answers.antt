use Rattle.ruled_desk.proofs.Words.{sym, ◌∙◌, ap, true, false, arith}
use Rattle.ruled_desk.proofs.RuleAdding.{serves_next}
use Rattle.ruled_desk.proofs.lock.RuledLock.serve.Goals as goal

pub fetch_add-requires : goal.fetch_add-requires
fetch_add-requires g c = (
  c.requires.table ∙ sym (ap (λ l. l.table) c.self.view_is),
  omega (arith, c.self.invariant.0),
  serves_next c.self.inside.table.shared.key.value c.self.inside.table.shared.table_id.slots c.args.seat.now.id c.args.seat.now.me c.requires.back.book true
      c.requires.back.took c.requires.back.slot (λ e. c.requires.back.last c.if-full.true),
)

pub fetch_add-requires-else-full : goal.fetch_add-requires-else-full
fetch_add-requires-else-full g c = (
  c.requires.table ∙ sym (ap (λ l. l.table) c.self.view_is),
  omega (arith, c.self.invariant.0),
  serves_next c.self.inside.table.shared.key.value c.self.inside.table.shared.table_id.slots c.args.seat.now.id c.args.seat.now.me c.requires.back.book false
      c.requires.back.took c.requires.back.slot (λ e. cc),
)
