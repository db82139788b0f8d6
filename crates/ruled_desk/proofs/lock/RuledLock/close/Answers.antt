use Rattle.ruled_desk.proofs.Words.{sym, ap, subst, ◌≤◌}
use Rattle.stamped_book.specs.contracts.stamped.Entry.{the_row}
use Rattle.ruled_desk.proofs.Members.{gains, is_home, gains_seen}
use Rattle.ruled_desk.proofs.RuleJoining.{closes_by}
use Rattle.ruled_desk.proofs.lock.RuledLock.close.Goals as goal

pub unreachable-requires : goal.unreachable-requires
unreachable-requires g c =
    is_home c.self.inside.table.shared.key.value c.seat.inside.seat.me.0 _ c.take-slot.result
    (closes_by c.self.inside.table.shared.key.value c.seat.inside.seat.id c.seat.inside.seat.me.0 _ _
    (subst (λ n. 1024 ≤ n) (sym (ap (λ s. s.parts) c.seat.view_is)) c.requires.parts) c.seat.invariant.0 c.close_with-closed.ensures.values)
    c.take-slot.ensures.value c.in-None.is

pub returns-clause-gains : goal.returns-clause-gains
returns-clause-gains g c =
    gains_seen c.args.self c.self.inside.table.shared.table_id c.self.inside.table.shared.key.value c.into_book.result c.in-Some.held c.args.seat
    c.seat.inside.seat.table_id c.seat.inside.seat.me.0 c.self.view_is c.seat.view_is c.into_book.ensures.value
    (gains (the_row g.row.O-Call g.row.O-Reply).coded c.self.inside.table.shared.key.value c.seat.inside.seat.me.0 _ c.take-slot.result c.in-Some.held
    (closes_by c.self.inside.table.shared.key.value c.seat.inside.seat.id c.seat.inside.seat.me.0 _ _
    (subst (λ n. 1024 ≤ n) (sym (ap (λ s. s.parts) c.seat.view_is)) c.requires.parts) c.seat.invariant.0 c.close_with-closed.ensures.values)
    c.take-slot.ensures.value c.in-Some.is)
