use Rattle.path_core.specs.Octets.{octets}
use Rattle.path_core.specs.Values.{values}
use Rattle.whole_paths.proofs.Holding as holding
use Rattle.whole_paths.proofs.holder_laws.holders_live.Goals as goal

pub returns-clause-octets : goal.returns-clause-octets
returns-clause-octets c = holding.holders_live octets

pub returns-clause-values : goal.returns-clause-values
returns-clause-values c = holding.holders_live values
