use Rattle.std.proofs.Common.{◌<◌, length, sym, arith}
use Rattle.subflow_send.proofs.PieceLoops.{sent_pieces_none}
use Rattle.subflow_send.proofs.Counting.{unsent_sent_read}
use Rattle.subflow_send.proofs.queue.PieceQueue.send_unsent.Goals as goal

pub returns-then-index-len-clause-sent : goal.returns-then-index-len-clause-sent
returns-then-index-len-clause-sent c =
    rw (← c.self.view_is) (sent_pieces_none c.args.now c.self.inside.items.items (λ k d less. c.next_unsent-index.ensures.before k d (omega arith))).0

pub returns-then-index-len-clause-some : goal.returns-then-index-len-clause-some
returns-then-index-len-clause-some c =
    rw (← c.self.view_is) (sym (sent_pieces_none c.args.now c.self.inside.items.items (λ k d less. c.next_unsent-index.ensures.before k d (omega arith))).1)

pub returns-clause-sent : goal.returns-clause-sent
returns-clause-sent c =
    let is = rw (← c.self.view_is) at c.send_at.ensures in
    rw (← c.self.view_is)
    (unsent_sent_read c.args.now c.self.inside.items.items c.send_at.new.self c.next_unsent-index.result (omega arith) c.next_unsent-index.ensures.before c.next_unsent-index.ensures.here is).0

pub returns-clause-some : goal.returns-clause-some
returns-clause-some c =
    let is = rw (← c.self.view_is) at c.send_at.ensures in
    rw (← c.self.view_is)
    (sym (unsent_sent_read c.args.now c.self.inside.items.items c.send_at.new.self c.next_unsent-index.result (omega arith) c.next_unsent-index.ensures.before c.next_unsent-index.ensures.here is).1)
