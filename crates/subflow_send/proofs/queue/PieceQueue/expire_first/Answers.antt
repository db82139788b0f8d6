use Rattle.std.proofs.Common.{sym, ◌∙◌, arith}
use Rattle.subflow_send.proofs.PieceLoops.{expired_first_read}
use Rattle.subflow_send.proofs.Counting.{some_left, counted-expired_read}
use Rattle.subflow_send.proofs.queue.PieceQueue.expire_first.Goals as goal

pub invariant_of-self : goal.invariant_of-self
invariant_of-self c =
    counted-expired_read c.self.inside.items.items c.unsend_from.new.pieces.items _ _ _ _ c.index.result.now c.index_mut.result.now c.index-2.result.now c.first_at_an_expiry-sending.result
    (omega (arith, some_left _ (sym c.if-is_empty.false ∙ c.is_empty.ensures))) c.self.invariant c.index.ensures c.first_at_an_expiry-sending.ensures c.index_mut.ensures.value c.unsend_from.ensures c.min-self-inside.ensures c.index-2.ensures
    c.under_way-self-inside.ensures

pub returns-clause-marked : goal.returns-clause-marked
returns-clause-marked c =
    rw (← c.self.view_is)
    (expired_first_read c.self.inside.items.items c.unsend_from.new.pieces.items c.index.result.now c.index_mut.result.now c.first_at_an_expiry-sending.result (omega (arith, some_left _ (sym c.if-is_empty.false ∙ c.is_empty.ensures)))
    c.index.ensures c.first_at_an_expiry-sending.ensures c.index_mut.ensures.value c.unsend_from.ensures)
