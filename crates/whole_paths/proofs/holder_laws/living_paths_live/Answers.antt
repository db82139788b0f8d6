use Rattle.path_core.specs.Octets.{octets}
use Rattle.path_core.specs.Values.{values}
use Rattle.whole_paths.proofs.LivingPaths as holding
use Rattle.whole_paths.proofs.holder_laws.living_paths_live.Goals as goal

pub returns-clause-octets : goal.returns-clause-octets
returns-clause-octets c = holding.living_paths_live octets

pub returns-clause-values : goal.returns-clause-values
returns-clause-values c = holding.living_paths_live values
