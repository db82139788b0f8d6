use Rattle.link_model.proofs.Order.{in_order_sent, in_order_delivered}
use Rattle.link_model.proofs.laws.copies_are_in_order.Goals as goal

pub returns-clause-sent : goal.returns-clause-sent
returns-clause-sent c = λ strip alter from octets length now link order. in_order_sent strip alter from octets length now link order

pub returns-clause-delivered : goal.returns-clause-delivered
returns-clause-delivered c = λ due link order. in_order_delivered due link order
