use Rattle.path_core.specs.Octets.{octets}
use Rattle.path_core.specs.Values.{values}
use Rattle.whole_paths.proofs.Wanted.{what_is_wanted_is_told}
use Rattle.whole_paths.proofs.many_laws.what_is_wanted_is_told.Goals as goal

pub returns-clause-octets : goal.returns-clause-octets
returns-clause-octets c = what_is_wanted_is_told octets

pub returns-clause-values : goal.returns-clause-values
returns-clause-values c = what_is_wanted_is_told values
