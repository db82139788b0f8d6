use Rattle.ruled_desk.proofs.Words.{sym, subst, IsWaiting, HasTaken}
use Rattle.ruled_desk.proofs.lock.RuledLock.wait.Goals as goal

pub look-requires-clause-waits : goal.look-requires-clause-waits
look-requires-clause-waits g c κs within = subst (λ me. IsWaiting me c.args.ticket) (sym c.loop.invariant.1) c.requires.waits

pub returns-then-look-clause-taken : goal.returns-then-look-clause-taken
returns-then-look-clause-taken g c = subst (λ me. HasTaken me c.look.new.seat.me) c.loop.invariant.1 (c.look.ensures.taken c.if-look.true)
