use Rattle.sides.specs.declared.side.Side.TheVariants.{A, B}
use Rattle.link_model.specs.Steps.{arrivals}
use Rattle.link_model.proofs.Queues.{queue_launched, launched_to_a, launched_to_b}
use Rattle.link_model.proofs.flights.Flights.launch.Goals as goal

pub invariant_of-self : goal.invariant_of-self
invariant_of-self c =
    (queue_launched c.args.number c.args.octets (arrivals c.args.fate c.args.first) c.args.to A c.in-A.is c.self.inside.to_a.items c.launch.new.flights.items c.launch.result c.launch.ensures.ok c.launch.ensures.err c.self.invariant.0, c.self.invariant.1)

pub invariant_of-self-in-B : goal.invariant_of-self-in-B
invariant_of-self-in-B c =
    (c.self.invariant.0, queue_launched c.args.number c.args.octets (arrivals c.args.fate c.args.first) c.args.to B c.in-B.is c.self.inside.to_b.items c.launch-in-B.new.flights.items c.launch-in-B.result c.launch-in-B.ensures.ok c.launch-in-B.ensures.err c.self.invariant.1)

pub returns-in-A-clause-ok : goal.returns-in-A-clause-ok
returns-in-A-clause-ok c =
    rw (← c.self.view_is)
    (launched_to_a c.args.number c.args.octets (arrivals c.args.fate c.args.first) c.args.to c.in-A.is c.self.inside.to_a.items c.launch.new.flights.items c.self.inside.to_b.items c.launch.result c.self.invariant.0 c.self.invariant.1 c.launch.ensures.ok)

pub returns-in-B-clause-ok : goal.returns-in-B-clause-ok
returns-in-B-clause-ok c =
    rw (← c.self.view_is)
    (launched_to_b c.args.number c.args.octets (arrivals c.args.fate c.args.first) c.args.to c.in-B.is c.self.inside.to_a.items c.self.inside.to_b.items c.launch-in-B.new.flights.items c.launch-in-B.result c.self.invariant.0 c.self.invariant.1 c.launch-in-B.ensures.ok)
