use Rattle.ruled_desk.proofs.Words.{refl, sym, ◌∙◌, subst, HasPass, Rode}
use Rattle.std.specs.Arc.{arc_value}
use Rattle.std.specs.Prelude.{IfSome}
use Rattle.ruled_desk.proofs.SentOut.{same_out}
use Rattle.ruled_desk.proofs.errands.come_home.Goals as goal

pub recall-requires : goal.recall-requires
recall-requires g c = (c.requires.0, c.requires.1)

pub run-requires : goal.run-requires
run-requires g c =
    subst (λ errand. HasPass (arc_value errand.desk) errand.rider)
    (same_out c.args.giver.now c.requires.0 c.in-Some.errand c.requires.1 c.in-Some.ensures.back) c.requires.2

pub fetch-requires : goal.fetch-requires
fetch-requires g c = (c.requires.0, c.in-None.ensures.still refl ∙ c.requires.1)

pub returns-in-Some-clause-rode : goal.returns-in-Some-clause-rode
returns-in-Some-clause-rode g c =
    subst (λ old. IfSome old (λ errand. Rode g.A.Actor.asks g.A.Actor.takes (arc_value errand.desk) errand.rider c.into_rider.result)) (sym c.in-Some.ensures.back)
    (subst (λ rider. Rode g.A.Actor.asks g.A.Actor.takes (arc_value c.in-Some.errand.desk) c.in-Some.errand.rider rider) (sym c.into_rider.ensures) c.run.ensures)

pub returns-in-None-clause-rode : goal.returns-in-None-clause-rode
returns-in-None-clause-rode g c =
    subst (λ old. IfSome old (λ errand. Rode g.A.Actor.asks g.A.Actor.takes (arc_value errand.desk) errand.rider c.into_rider-in-None.result)) (c.in-None.ensures.still refl)
    (subst (λ rider. IfSome c.recall.new.self (λ errand. Rode g.A.Actor.asks g.A.Actor.takes (arc_value errand.desk) errand.rider rider)) (sym c.into_rider-in-None.ensures)
    c.fetch.ensures.done)
