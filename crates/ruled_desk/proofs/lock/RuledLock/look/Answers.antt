use Rattle.ruled_desk.proofs.Words.{sym, ◌∙◌, ap, arith}
use Rattle.ruled_desk.proofs.RuleSteps.{looks}
use Rattle.ruled_desk.proofs.RuleWords.{looked_taken, looked_still}
use Rattle.ruled_desk.proofs.lock.RuledLock.look.Goals as goal

pub load-requires : goal.load-requires
load-requires g c = (
  c.requires.table ∙ sym (ap (λ l. l.table) c.self.view_is),
  omega (arith, c.self.invariant.0),
  looks c.self.inside.table.shared.key.value c.self.inside.table.shared.table_id.slots c.args.seat.now.id c.args.seat.now.me c.requires.waits.ticket
      c.requires.waits.waits c.requires.waits.took c.requires.waits.holds,
)

pub returns-clause-taken : goal.returns-clause-taken
returns-clause-taken g c = looked_taken c.load.result c.args.ticket c.args.seat.now.me c.load.new.seat.me c.requires.waits c.load.ensures.2

pub returns-clause-still : goal.returns-clause-still
returns-clause-still g c = looked_still c.load.result c.args.ticket c.args.seat.now.me c.load.new.seat.me c.requires.waits c.load.ensures.2
