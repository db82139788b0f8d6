use Rattle.path_core.specs.Octets.{octets}
use Rattle.path_core.specs.Values.{values}
use Rattle.whole_paths.proofs.InTime as timing
use Rattle.whole_paths.proofs.laws.events_come_in_order.Goals as goal

pub returns-clause-octets : goal.returns-clause-octets
returns-clause-octets c = timing.events_come_in_order octets

pub returns-clause-values : goal.returns-clause-values
returns-clause-values c = timing.events_come_in_order values
