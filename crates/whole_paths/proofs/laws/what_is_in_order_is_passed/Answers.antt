use Rattle.path_core.specs.Octets.{octets}
use Rattle.path_core.specs.Values.{values}
use Rattle.whole_paths.proofs.Passing as passing
use Rattle.whole_paths.proofs.laws.what_is_in_order_is_passed.Goals as goal

pub returns-clause-octets : goal.returns-clause-octets
returns-clause-octets c = passing.what_is_in_order_is_passed octets

pub returns-clause-values : goal.returns-clause-values
returns-clause-values c = passing.what_is_in_order_is_passed values
