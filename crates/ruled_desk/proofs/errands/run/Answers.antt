use Rattle.ruled_desk.proofs.Words.{sym, subst, HasPass, Rode}
use Rattle.ruled_desk.proofs.errands.run.Goals as goal

pub ride-requires : goal.ride-requires
ride-requires g c = subst (λ d. HasPass d c.args.errand.now.rider) (sym c.deref.ensures) c.requires

pub returns : goal.returns
returns g c = subst (λ d. Rode g.A.Actor.asks g.A.Actor.takes d c.args.errand.now.rider c.ride.new.rider) c.deref.ensures c.ride.ensures
