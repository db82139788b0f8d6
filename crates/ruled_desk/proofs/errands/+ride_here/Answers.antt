use Rattle.ruled_desk.proofs.Words.{arith}
use Rattle.std.proofs.Common.{rules}
use Rattle.ruled_desk.proofs.SentOut.{have_before, last_has, rode_last, rode_many}
use Rattle.ruled_desk.proofs.errands.+ride_here.Goals as goal

pub ride-requires : goal.ride-requires
ride-requires g t c = last_has c.args.desk.now c.args.riders.now.items c.pop.new.self.items c.in-Some.rider c.in-Some.ensures.items c.requires

pub ride_here-requires : goal.ride_here-requires
ride_here-requires g t c κs within =
    let left = have_before c.args.desk.now c.args.riders.now.items c.pop.new.self.items c.in-Some.rider c.in-Some.ensures.items c.requires in
    search (rules, arith, left)

pub push_reserved-requires : goal.push_reserved-requires
push_reserved-requires g t c =
    let long = rode_many g.A.Actor.asks g.A.Actor.takes c.args.desk.now c.pop.new.self.items c.ride_here.new.riders.items c.ride_here.ensures.rode in
    omega (arith, long, c.ride_here.ensures.room, c.pop.ensures.capacity, c.in-Some.ensures.cases, c.pop.new.self.ok.0, c.ride_here.new.riders.ok.0, c.args.riders.now.ok.1)

pub returns-clause-rode : goal.returns-clause-rode
returns-clause-rode g t c =
    rode_last g.A.Actor.asks g.A.Actor.takes c.args.desk.now c.args.riders.now.items c.pop.new.self.items c.ride_here.new.riders.items c.push_reserved.new.self.items c.in-Some.rider c.ride.new.rider
    c.in-Some.ensures.items c.push_reserved.ensures.items c.ride_here.ensures.rode c.ride.ensures
