use Rattle.std.proofs.Common.{◌<◌, length, sym, ◌∙◌, arith}
use Rattle.subflow_send.proofs.Counting.{some_left, first_sent_read}
use Rattle.subflow_send.proofs.queue.PieceQueue.send_first.Goals as goal

pub returns-clause-sent : goal.returns-clause-sent
returns-clause-sent c =
    let is = rw (← c.self.view_is) at c.send_at.ensures in
    rw (← c.self.view_is)
    (first_sent_read c.args.now c.self.inside.items.items c.send_at.new.self (omega (arith, some_left _ (sym c.if-is_empty.false ∙ c.is_empty.ensures))) is)
