use Rattle.std.proofs.Common.{◌∙◌, sym, subst, IsSome, ap, List, ℕ}
use Rattle.sides.specs.declared.side.Side.TheVariants.{A, B}
use Rattle.link_model.specs.declared.flight.Flight.{Flight}
use Rattle.link_model.specs.Queues.{IsQueue, merged}
use Rattle.link_model.proofs.Queues.{found_to_a, found_to_b, taken_to_a, taken_to_b, queue_without}
use Rattle.link_model.proofs.flights.Flights.take.Goals as goal

pub take-requires : goal.take-requires
take-requires c =
    subst IsSome (rw (← c.self.view_is) (sym (found_to_a c.args.due.now c.self.inside.to_a.items c.self.inside.to_b.items c.in-A.is c.self.invariant.0 c.self.invariant.1))) c.requires

pub invariant_of-self : goal.invariant_of-self
invariant_of-self c = (subst (IsQueue A) (sym c.take.ensures.after) (queue_without A c.args.due.now c.self.inside.to_a.items c.self.invariant.0), c.self.invariant.1)

pub take-requires-in-B : goal.take-requires-in-B
take-requires-in-B c =
    subst IsSome (rw (← c.self.view_is) (sym (found_to_b c.args.due.now c.self.inside.to_a.items c.self.inside.to_b.items c.in-B.is c.self.invariant.0 c.self.invariant.1))) c.requires

pub invariant_of-self-in-B : goal.invariant_of-self-in-B
invariant_of-self-in-B c = (c.self.invariant.0, subst (IsQueue B) (sym c.take-in-B.ensures.after) (queue_without B c.args.due.now c.self.inside.to_b.items c.self.invariant.1))

pub returns-in-A-clause-octets : goal.returns-in-A-clause-octets
returns-in-A-clause-octets c =
    rw (← c.self.view_is, ← found_to_a c.args.due.now c.self.inside.to_a.items c.self.inside.to_b.items c.in-A.is c.self.invariant.0 c.self.invariant.1) c.take.ensures.octets

pub returns-in-A-clause-after : goal.returns-in-A-clause-after
returns-in-A-clause-after c =
    rw (← c.self.view_is)
    (ap (λ (zs : List (Flight (List ℕ))). merged zs c.self.inside.to_b.items) c.take.ensures.after
    ∙ taken_to_a c.args.due.now c.self.inside.to_a.items c.self.inside.to_b.items c.in-A.is c.self.invariant.0 c.self.invariant.1)

pub returns-in-B-clause-octets : goal.returns-in-B-clause-octets
returns-in-B-clause-octets c =
    rw (← c.self.view_is, ← found_to_b c.args.due.now c.self.inside.to_a.items c.self.inside.to_b.items c.in-B.is c.self.invariant.0 c.self.invariant.1) c.take-in-B.ensures.octets

pub returns-in-B-clause-after : goal.returns-in-B-clause-after
returns-in-B-clause-after c =
    rw (← c.self.view_is)
    (ap (λ (zs : List (Flight (List ℕ))). merged c.self.inside.to_a.items zs) c.take-in-B.ensures.after
    ∙ taken_to_b c.args.due.now c.self.inside.to_a.items c.self.inside.to_b.items c.in-B.is c.self.invariant.0 c.self.invariant.1)
