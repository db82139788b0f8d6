use Rattle.ruled_desk.proofs.Calling.{has_slot, is_waiting, taken_out}
use Rattle.ruled_desk.proofs.lock.RuledLock.take.Goals as goal

pub wait-requires-clause-waits : goal.wait-requires-clause-waits
wait-requires-clause-waits g c κs within =
    is_waiting c.args.seat.now.me c.draw-ticket.new.seat.me c.draw-ticket.result c.requires.rests c.requires.holds c.draw-ticket.ensures.drawn

pub take_out-requires-clause-slot : goal.take_out-requires-clause-slot
take_out-requires-clause-slot g c κs within = has_slot c.draw-ticket.new.seat.me c.wait.new.seat.me c.wait.ensures.taken

pub returns-clause-out : goal.returns-clause-out
returns-clause-out g c =
    taken_out c.args.seat.now.me c.draw-ticket.new.seat.me c.wait.new.seat.me c.take_out.new.seat.me c.draw-ticket.result c.take_out.result c.draw-ticket.ensures.drawn
    c.wait.ensures.taken c.take_out.ensures.view c.take_out.ensures.turn
