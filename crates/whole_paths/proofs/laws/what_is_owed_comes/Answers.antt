use Rattle.path_core.specs.Octets.{octets}
use Rattle.path_core.specs.Values.{values}
use Rattle.whole_paths.proofs.Paying as paying
use Rattle.whole_paths.proofs.laws.what_is_owed_comes.Goals as goal

pub returns-clause-octets : goal.returns-clause-octets
returns-clause-octets c = paying.what_is_owed_comes octets

pub returns-clause-values : goal.returns-clause-values
returns-clause-values c = paying.what_is_owed_comes values
