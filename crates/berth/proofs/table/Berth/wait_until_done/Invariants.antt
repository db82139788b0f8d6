use Rattle.std.proofs.Common.{◌≡◌}
use Rattle.berth.proofs.table.Berth.wait_until_done.Given as goal

-- nothing has changed yet
abbrev pub invariant-loop : goal.invariant-loop
invariant-loop g l = (l.seat.table_id ≡ l.initial.seat.table_id) × (l.seat.me ≡ l.initial.seat.me)
