use Rattle.path_core.specs.Octets.{octets}
use Rattle.path_core.specs.Values.{values}
use Rattle.whole_paths.proofs.ExpiriesInARow as expiring
use Rattle.whole_paths.proofs.laws.expiries_alone_count.Goals as goal

pub returns-clause-octets : goal.returns-clause-octets
returns-clause-octets c = expiring.expiries_alone_count octets

pub returns-clause-values : goal.returns-clause-values
returns-clause-values c = expiring.expiries_alone_count values
