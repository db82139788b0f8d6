use Rattle.std.proofs.Common.{◌∙◌, sym, subst}
use Rattle.link_model.specs.Order.{AreInOrder}
use Rattle.link_model.proofs.Order.{in_order_with}
use Rattle.link_model.proofs.flights.put_flight.Goals as goal

pub returns-then-arrives_last-clause-order : goal.returns-then-arrives_last-clause-order
returns-then-arrives_last-clause-order c =
    subst AreInOrder (c.arrives_last.ensures.last c.if-arrives_last.true ∙ sym c.put_last.ensures.items) (in_order_with c.args.flight c.args.flights.now.items c.requires.order)

pub returns-clause-order : goal.returns-clause-order
returns-clause-order c =
    subst AreInOrder (c.place_before-place.ensures.place ∙ sym c.put_before.ensures.items) (in_order_with c.args.flight c.args.flights.now.items c.requires.order)
