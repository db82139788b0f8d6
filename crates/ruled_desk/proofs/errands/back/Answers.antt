use Rattle.ruled_desk.proofs.Words.{sym, subst, HasPass, Rode}
use Rattle.ruled_desk.proofs.SentOut.{fetched, not_sent, sent_out}
use Rattle.ruled_desk.proofs.errands.back.Goals as goal

pub come_home-requires : goal.come_home-requires
come_home-requires g c =
    let out = sent_out c.args.desk.now c.requires.0 c.args.giver.now c.args.kept c.in-None.is c.requires.1 in
    (out.0, out.1, subst (λ d. HasPass d out.0.rider) (sym out.3) (subst (λ r. HasPass c.args.desk.now r) (sym out.2) c.requires.2))

pub returns-in-Some-clause-rode : goal.returns-in-Some-clause-rode
returns-in-Some-clause-rode g c rider sent has =
    subst (λ r. Rode g.A.Actor.asks g.A.Actor.takes c.args.desk.now r c.ride.new.rider)
    (not_sent c.args.desk.now rider c.in-Some.rider c.args.giver.now c.args.kept c.in-Some.is sent).1 c.ride.ensures

pub returns-in-None-clause-rode : goal.returns-in-None-clause-rode
returns-in-None-clause-rode g c rider sent has =
    fetched g.A.Actor.asks g.A.Actor.takes c.args.desk.now rider c.args.giver.now c.args.kept c.come_home.result c.in-None.is sent c.come_home.ensures.rode
