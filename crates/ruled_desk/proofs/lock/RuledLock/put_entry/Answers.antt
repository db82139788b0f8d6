use Rattle.ruled_desk.proofs.Words.{sym, ◌∙◌, ap, Some, None, arith}
use Rattle.ruled_desk.proofs.Putting.{held_some, mid_took, mid_slot, is_back_more, done_entry}
use Rattle.ruled_desk.proofs.RuleAdding.{adds_one}
use Rattle.ruled_desk.proofs.lock.RuledLock.put_entry.Goals as goal

pub exchange-requires : goal.exchange-requires
exchange-requires g c =
    (c.requires.table ∙ sym (ap (λ l. l.table) c.self.view_is), held_some c.args.seat.now.me None c.requires.more.turn.slot)

pub fetch_add-requires : goal.fetch_add-requires
fetch_add-requires g c = (
  c.exchange.ensures.0 ∙ (c.requires.table ∙ sym (ap (λ l. l.table) c.self.view_is)),
  omega (arith, c.self.invariant.0),
  adds_one c.self.inside.table.shared.key.value c.self.inside.table.shared.table_id.slots c.exchange.new.seat.id c.exchange.new.seat.me c.requires.more.book
      c.requires.more.entry (mid_took c.args.seat.now.me c.exchange.new.seat.me c.requires.more.book (Some c.args.held) c.requires.more.turn c.exchange.ensures.3)
      (mid_slot c.args.seat.now.me c.exchange.new.seat.me c.requires.more.book c.args.held c.requires.more.entry c.requires.more.turn c.requires.more.grew c.exchange.ensures.3),
)

pub serve-requires-clause-back : goal.serve-requires-clause-back
serve-requires-clause-back g c = λ κs bounds.
    is_back_more c.args.seat.now.me c.exchange.new.seat.me c.fetch_add.new.seat.me c.args.held c.requires.more c.exchange.ensures.3 c.fetch_add.ensures.2

pub returns-clause-done : goal.returns-clause-done
returns-clause-done g c =
    done_entry c.args.seat.now.me c.exchange.new.seat.me c.fetch_add.new.seat.me c.serve.new.seat.me c.args.held c.exchange.ensures.3 c.fetch_add.ensures.2 c.serve.ensures.served
