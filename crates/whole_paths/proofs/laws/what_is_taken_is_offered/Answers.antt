use Rattle.path_core.specs.Octets.{octets}
use Rattle.path_core.specs.Values.{values}
use Rattle.whole_paths.proofs.Offered as offered
use Rattle.whole_paths.proofs.laws.what_is_taken_is_offered.Goals as goal

pub returns-clause-octets : goal.returns-clause-octets
returns-clause-octets c = offered.what_is_taken_is_offered octets

pub returns-clause-values : goal.returns-clause-values
returns-clause-values c = offered.what_is_taken_is_offered values
