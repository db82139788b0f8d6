use Rattle.path_core.specs.Octets.{octets}
use Rattle.path_core.specs.Values.{values}
use Rattle.whole_paths.proofs.StandbyPaths as holding
use Rattle.whole_paths.proofs.holder_laws.standby_is_for_another.Goals as goal

pub returns-clause-octets : goal.returns-clause-octets
returns-clause-octets c = holding.standby_is_for_another octets

pub returns-clause-values : goal.returns-clause-values
returns-clause-values c = holding.standby_is_for_another values
