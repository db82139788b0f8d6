use Rattle.ruled_desk.proofs.Words.{sym, ◌∙◌, ap, subst, ◌≤◌, arith}
use Rattle.ruled_desk.proofs.RuleJoining.{joins}
use Rattle.ruled_desk.proofs.lock.RuledLock.join.Goals as goal

pub join_seat-requires : goal.join_seat-requires
join_seat-requires g c = (
  ap (λ s. s.table) c.seat.view_is ∙ c.requires.table ∙ sym (ap (λ l. l.table) c.self.view_is),
  ap (λ s. s.table) c.other.view_is ∙ c.requires.other ∙ sym (ap (λ l. l.table) c.self.view_is),
  c.other.invariant.1,
  omega (arith, c.self.invariant.0),
  joins c.self.inside.table.shared.key.value c.seat.inside.seat.id c.seat.inside.seat.me.0 c.other.inside.seat.id c.other.inside.seat.me.0
      (subst (λ n. 1 ≤ n) (sym (ap (λ s. s.parts) c.seat.view_is)) c.requires.parts) c.seat.invariant.0 c.other.invariant.0,
)
