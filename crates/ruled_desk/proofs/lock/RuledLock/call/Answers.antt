use Rattle.ruled_desk.proofs.Words.{◌∙◌, ap, entry_by}
use Rattle.ruled_desk.proofs.Calling.{own_entry, parts_after, rests_again}
use Rattle.ruled_desk.proofs.lock.RuledLock.call.Goals as goal

pub invariant_of-seat : goal.invariant_of-seat
invariant_of-seat g c =
    rests_again c.seat.inside.seat.me c.call_at.new.seat.me c.call_at.result (λ reply. entry_by c.args.pass.now c.call_at.new.pass c.args.call.now reply)
    c.call_at.ensures.done c.call_at.ensures.err

pub returns-clause-own : goal.returns-clause-own
returns-clause-own g c =
    own_entry c.call_at.new.seat.table_id c.seat.inside.seat.table_id c.seat.inside.seat.me c.call_at.new.seat.me c.args.seat.now c.call_at.result
    (λ reply. entry_by c.args.pass.now c.call_at.new.pass c.args.call.now reply) c.call_at.ensures.table c.seat.view_is c.call_at.ensures.done

pub returns-clause-parts : goal.returns-clause-parts
returns-clause-parts g c =
    parts_after c.seat.inside.seat.me c.call_at.new.seat.me c.call_at.result (λ reply. entry_by c.args.pass.now c.call_at.new.pass c.args.call.now reply)
    c.call_at.ensures.done c.call_at.ensures.err ∙ ap (λ s. s.parts) c.seat.view_is
