use Rattle.link_model.specs.Queues.{merged}
use Rattle.link_model.proofs.Found.{next_is_under_way}
use Rattle.link_model.proofs.Order.{earliest}
use Rattle.link_model.proofs.Queues.{merged_is, due_of_both}
use Rattle.link_model.proofs.flights.Flights.due.Goals as goal

pub returns-clause-earliest : goal.returns-clause-earliest
returns-clause-earliest c =
    rw (c.first_due.ensures, ← c.self.view_is) (due_of_both c.self.inside.to_a.items c.self.inside.to_b.items c.self.invariant.0 c.self.invariant.1)

pub returns-clause-none_before : goal.returns-clause-none_before
returns-clause-none_before c =
    let a = c.self.inside.to_a.items in
    let b = c.self.inside.to_b.items in
    rw (c.first_due.ensures, due_of_both a b c.self.invariant.0 c.self.invariant.1, ← c.self.view_is) (earliest (merged a b) (merged_is a b c.self.invariant.0 c.self.invariant.1).order)

pub returns-clause-under_way : goal.returns-clause-under_way
returns-clause-under_way c =
    let a = c.self.inside.to_a.items in
    let b = c.self.inside.to_b.items in
    rw (c.first_due.ensures, due_of_both a b c.self.invariant.0 c.self.invariant.1, ← c.self.view_is) (next_is_under_way (merged a b))
