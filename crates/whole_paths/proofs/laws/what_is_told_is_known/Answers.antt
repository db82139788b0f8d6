use Rattle.path_core.specs.Octets.{octets}
use Rattle.path_core.specs.Values.{values}
use Rattle.whole_paths.proofs.Knowing as knowing
use Rattle.whole_paths.proofs.laws.what_is_told_is_known.Goals as goal

pub returns-clause-octets : goal.returns-clause-octets
returns-clause-octets c = knowing.what_is_told_is_known octets

pub returns-clause-values : goal.returns-clause-values
returns-clause-values c = knowing.what_is_told_is_known values
