use Rattle.ruled_desk.proofs.Words.{sym, ◌∙◌, ap, ◌∷◌, Some, rest}
use Rattle.ruled_desk.proofs.lock.RuledLock.take_out.Goals as goal

pub exchange-requires : goal.exchange-requires
exchange-requires g c = (
  c.requires.table ∙ sym (ap (λ l. l.table) c.self.view_is),
  (Some c.requires.slot.0, c.requires.slot.2 ∙ ap (λ l. (0, Some c.requires.slot.0) ∷ rest l) (sym c.requires.slot.2)),
)
