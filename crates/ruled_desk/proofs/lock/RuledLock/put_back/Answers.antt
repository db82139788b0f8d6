use Rattle.ruled_desk.proofs.Words.{sym, ◌∙◌, ap, false, None}
use Rattle.ruled_desk.proofs.Putting.{held_some, is_back, done_back}
use Rattle.ruled_desk.proofs.lock.RuledLock.put_back.Goals as goal

pub exchange-requires : goal.exchange-requires
exchange-requires g c =
    (c.requires.table ∙ sym (ap (λ l. l.table) c.self.view_is), held_some c.args.seat.now.me None c.requires.turn.slot)

pub serve-requires-clause-back : goal.serve-requires-clause-back
serve-requires-clause-back g c = λ κs bounds. is_back false c.args.seat.now.me c.exchange.new.seat.me c.args.held c.requires.turn c.exchange.ensures.3 (λ e. cc)

pub returns-clause-done : goal.returns-clause-done
returns-clause-done g c =
    done_back false c.args.seat.now.me c.exchange.new.seat.me c.serve.new.seat.me c.args.held c.exchange.ensures.3 c.serve.ensures.served
