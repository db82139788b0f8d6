use Rattle.path_core.specs.Octets.{octets}
use Rattle.path_core.specs.Values.{values}
use Rattle.whole_paths.proofs.Flying as flying
use Rattle.whole_paths.proofs.laws.what_waits_comes.Goals as goal

pub returns-clause-octets : goal.returns-clause-octets
returns-clause-octets c = flying.what_waits_comes octets

pub returns-clause-values : goal.returns-clause-values
returns-clause-values c = flying.what_waits_comes values
