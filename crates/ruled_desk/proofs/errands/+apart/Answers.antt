use Rattle.ruled_desk.proofs.Words.{sym, subst, arith, HasPass, IsSent, Rode}
use Rattle.std.proofs.Common.{rules}
use Rattle.std.specs.Arc.{arc_value}
use Rattle.ruled_desk.proofs.SentOut.{first_rests, have_before, last_has, rode_last, rode_many}
use Rattle.ruled_desk.proofs.errands.+apart.Goals as goal

pub ride_apart-ride_beside-requires : goal.ride_apart-ride_beside-requires
ride_apart-ride_beside-requires g t c κs within =
    let rest = first_rests c.args.givers.now c.in-Some.giver.now c.in-Some.others.now c.in-Some.ensures.cases.0 c.requires.rest in
    search (rules, arith, rest)

pub ride_beside-send-kept-requires-clause-pass : goal.ride_beside-send-kept-requires-clause-pass
ride_beside-send-kept-requires-clause-pass g t c =
    last_has (arc_value c.args.desk.now) c.args.riders.now.items c.pop.new.self.items c.in-Some.rider c.in-Some.ensures.items c.requires.passes

pub ride_beside-ride_apart-requires : goal.ride_beside-ride_apart-requires
ride_beside-ride_apart-requires g t c κs within =
    let left = have_before (arc_value c.args.desk.now) c.args.riders.now.items c.pop.new.self.items c.in-Some.rider c.in-Some.ensures.items c.requires.passes in
    search (rules, arith, left)

pub ride_beside-back-requires : goal.ride_beside-back-requires
ride_beside-back-requires g t c = (
  c.in-Some.rider,
  subst (λ d. IsSent d c.in-Some.rider c.send-kept.result c.send-kept.new.giver) (sym c.deref.ensures) c.send-kept.ensures,
  subst (λ d. HasPass d c.in-Some.rider) (sym c.deref.ensures)
      (last_has (arc_value c.args.desk.now) c.args.riders.now.items c.pop.new.self.items c.in-Some.rider c.in-Some.ensures.items c.requires.passes),
)

pub ride_beside-push_reserved-requires : goal.ride_beside-push_reserved-requires
ride_beside-push_reserved-requires g t c =
    let long = rode_many g.A.Actor.asks g.A.Actor.takes (arc_value c.args.desk.now) c.pop.new.self.items c.ride_apart.new.riders.items c.ride_apart.ensures.rode in
    omega (arith, long, c.ride_apart.ensures.room, c.pop.ensures.capacity, c.in-Some.ensures.cases, c.pop.new.self.ok.0, c.ride_apart.new.riders.ok.0, c.args.riders.now.ok.1)

pub ride_beside-returns-clause-rode : goal.ride_beside-returns-clause-rode
ride_beside-returns-clause-rode g t c =
    rode_last g.A.Actor.asks g.A.Actor.takes (arc_value c.args.desk.now) c.args.riders.now.items c.pop.new.self.items c.ride_apart.new.riders.items c.push_reserved.new.self.items c.in-Some.rider c.back.result
    c.in-Some.ensures.items c.push_reserved.ensures.items c.ride_apart.ensures.rode
    (subst (λ d. Rode g.A.Actor.asks g.A.Actor.takes d c.in-Some.rider c.back.result) c.deref.ensures
    (c.back.ensures.rode c.in-Some.rider (subst (λ d. IsSent d c.in-Some.rider c.send-kept.result c.send-kept.new.giver) (sym c.deref.ensures) c.send-kept.ensures)
    (subst (λ d. HasPass d c.in-Some.rider) (sym c.deref.ensures)
    (last_has (arc_value c.args.desk.now) c.args.riders.now.items c.pop.new.self.items c.in-Some.rider c.in-Some.ensures.items c.requires.passes))))
