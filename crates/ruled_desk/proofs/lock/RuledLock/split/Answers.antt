use Rattle.ruled_desk.proofs.Words.{sym, ◌∙◌, ap, subst, ◌≤◌, arith}
use Rattle.ruled_desk.proofs.RuleJoining.{splits}
use Rattle.ruled_desk.proofs.lock.RuledLock.split.Goals as goal

pub split_seat-requires : goal.split_seat-requires
split_seat-requires g c = (
  ap (λ s. s.table) c.seat.view_is ∙ c.requires.table ∙ sym (ap (λ l. l.table) c.self.view_is),
  omega (arith, c.self.invariant.0),
  splits c.self.inside.table.shared.key.value c.seat.inside.seat.id c.seat.inside.seat.me.0
      (subst (λ n. 2 ≤ n) (sym (ap (λ s. s.parts) c.seat.view_is)) c.requires.parts) c.seat.invariant.0,
)
