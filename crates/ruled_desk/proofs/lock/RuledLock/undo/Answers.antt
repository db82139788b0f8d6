use Rattle.ruled_desk.proofs.Words.{ap, subst, GainsJust}
use Rattle.ruled_desk.proofs.Members.{gains_nothing}
use Rattle.ruled_desk.proofs.lock.RuledLock.undo.Goals as goal

pub returns : goal.returns
returns g c =
    gains_nothing c.args.self.start c.close.result c.args.seat.full
    (subst (λ own. GainsJust c.args.self.start c.close.result own c.args.seat.full) (ap (λ s. s.own) c.requires) c.close.ensures.gains)
