use Rattle.ruled_desk.proofs.Words.{◌≡◌}
use Rattle.ruled_desk.proofs.lock.RuledLock.wait.Given as goal

-- nothing has changed yet
abbrev pub invariant-loop : goal.invariant-loop
invariant-loop g l = (l.seat.table_id ≡ l.initial.seat.table_id) × (l.seat.me ≡ l.initial.seat.me)
