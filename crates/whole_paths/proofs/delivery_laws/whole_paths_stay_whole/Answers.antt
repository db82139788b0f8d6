use Rattle.path_core.specs.Octets.{octets}
use Rattle.path_core.specs.Values.{values}
use Rattle.whole_paths.proofs.StayingWhole as staying
use Rattle.whole_paths.proofs.delivery_laws.whole_paths_stay_whole.Goals as goal

pub returns-clause-octets : goal.returns-clause-octets
returns-clause-octets c = staying.whole_paths_stay_whole octets

pub returns-clause-values : goal.returns-clause-values
returns-clause-values c = staying.whole_paths_stay_whole values
