use Rattle.ruled_desk.proofs.Words.{◌≡◌, subst, list_any, is_rider_refused, Stamps, true}
use Rattle.ruled_desk.proofs.Ridden.{one_used_up}
use Rattle.ruled_desk.proofs.SentOut.{have_all, rode_each, rode_many}
use Rattle.ruled_desk.proofs.rounds.ruled_round.Goals as goal

pub ride_out-desk-requires-clause-passes : goal.ride_out-desk-requires-clause-passes
ride_out-desk-requires-clause-passes g c = have_all c.args.desk c.args.riders.now.items c.requires.passes

pub returns-clause-many : goal.returns-clause-many
returns-clause-many g c = rode_many g.A.Actor.asks g.A.Actor.takes c.args.desk c.args.riders.now.items c.ride_out-desk.new.riders.items c.ride_out-desk.ensures.rode

pub returns-clause-rode : goal.returns-clause-rode
returns-clause-rode g c = rode_each g.A.Actor.asks g.A.Actor.takes c.args.desk c.args.riders.now.items c.ride_out-desk.new.riders.items c.ride_out-desk.ensures.rode

pub returns-clause-used_up : goal.returns-clause-used_up
returns-clause-used_up g c is =
    one_used_up g.A.Actor.asks g.A.Actor.takes c.args.desk c.args.riders.now.items c.ride_out-desk.new.riders.items
    (rode_many g.A.Actor.asks g.A.Actor.takes c.args.desk c.args.riders.now.items c.ride_out-desk.new.riders.items c.ride_out-desk.ensures.rode)
    (rode_each g.A.Actor.asks g.A.Actor.takes c.args.desk c.args.riders.now.items c.ride_out-desk.new.riders.items c.ride_out-desk.ensures.rode)
    (subst (λ riders. list_any (is_rider_refused Stamps) riders ≡ true) c.as_slice.ensures.value ((c.outcome_of.ensures.stamps.0 is).1))
