use Rattle.path_core.specs.Octets.{octets}
use Rattle.path_core.specs.Values.{values}
use Rattle.whole_paths.proofs.Rising as rising
use Rattle.whole_paths.proofs.laws.ends_open_by_copies.Goals as goal

pub returns-clause-octets : goal.returns-clause-octets
returns-clause-octets c = rising.ends_open_by_copies octets

pub returns-clause-values : goal.returns-clause-values
returns-clause-values c = rising.ends_open_by_copies values
