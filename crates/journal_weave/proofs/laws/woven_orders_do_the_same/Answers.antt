use Rattle.path_core.specs.Octets.{octets}
use Rattle.path_core.specs.Values.{values}
use Rattle.journal_weave.proofs.Driven.{order_does}
use Rattle.journal_weave.proofs.laws.woven_orders_do_the_same.Goals as goal

pub returns-clause-octets : goal.returns-clause-octets
returns-clause-octets c = order_does octets

pub returns-clause-values : goal.returns-clause-values
returns-clause-values c = order_does values
