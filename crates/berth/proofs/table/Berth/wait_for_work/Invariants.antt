use Rattle.std.proofs.Common.{◌≡◌, []}
use Rattle.berth.specs.declared.rule.View.TheVariants.{Free}
use Rattle.berth.proofs.table.Berth.wait_for_work.Given as goal

-- there is no job yet
abbrev pub invariant-loop : goal.invariant-loop
invariant-loop g l = (l.seat.table_id ≡ l.initial.seat.table_id) × (l.seat.me ≡ (Free, []))
