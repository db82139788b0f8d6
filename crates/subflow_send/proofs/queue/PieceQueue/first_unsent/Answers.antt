use Rattle.std.proofs.Common.{Some, sym, ap, ◌∙◌, arith}
use Rattle.subflow_send.specs.Records.{Record}
use Rattle.subflow_send.specs.Pieces.{piece_record}
use Rattle.subflow_send.proofs.PieceLoops.{find_unsent_at, find_unsent_none}
use Rattle.subflow_send.proofs.queue.PieceQueue.first_unsent.Goals as goal

pub returns-then-index-len-clause-value : goal.returns-then-index-len-clause-value
returns-then-index-len-clause-value c =
    rw (← c.self.view_is)
    (ap (λ (r : Record). Some r) (c.lend.ensures.value ∙ ap piece_record c.index.ensures)
    ∙ sym (find_unsent_at c.self.inside.items.items c.next_unsent-index.result c.index.result.now (omega arith) c.next_unsent-index.ensures.before
    (c.next_unsent-index.ensures.here c.index.result.now (omega arith))))

pub returns-else-index-len-clause-value : goal.returns-else-index-len-clause-value
returns-else-index-len-clause-value c =
    rw (← c.self.view_is) (sym (find_unsent_none c.self.inside.items.items (λ k d less. c.next_unsent-index.ensures.before k d (omega arith))))
