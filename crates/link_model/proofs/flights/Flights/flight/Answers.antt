use Rattle.std.proofs.Common.{◌∙◌}
use Rattle.link_model.proofs.Queues.{found_to_a, found_to_b}
use Rattle.link_model.proofs.flights.Flights.flight.Goals as goal

pub returns-in-A : goal.returns-in-A
returns-in-A c =
    rw (← c.self.view_is) (c.flight_of.ensures ∙ found_to_a c.args.due.now c.self.inside.to_a.items c.self.inside.to_b.items c.in-A.is c.self.invariant.0 c.self.invariant.1)

pub returns-in-B : goal.returns-in-B
returns-in-B c =
    rw (← c.self.view_is) (c.flight_of-in-B.ensures ∙ found_to_b c.args.due.now c.self.inside.to_a.items c.self.inside.to_b.items c.in-B.is c.self.invariant.0 c.self.invariant.1)
