use Rattle.path_core.specs.Octets.{octets}
use Rattle.path_core.specs.Values.{values}
use Rattle.whole_paths.proofs.Ends as ends
use Rattle.whole_paths.proofs.laws.ends_are_sent.Goals as goal

pub returns-clause-octets : goal.returns-clause-octets
returns-clause-octets c = ends.ends_are_sent octets

pub returns-clause-values : goal.returns-clause-values
returns-clause-values c = ends.ends_are_sent values
