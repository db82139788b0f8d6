use Rattle.path_core.specs.Octets.{octets}
use Rattle.path_core.specs.Values.{values}
use Rattle.whole_paths.proofs.Bringing as bringing
use Rattle.whole_paths.proofs.laws.what_comes_is_kept.Goals as goal

pub returns-clause-octets : goal.returns-clause-octets
returns-clause-octets c = bringing.what_comes_is_kept octets

pub returns-clause-values : goal.returns-clause-values
returns-clause-values c = bringing.what_comes_is_kept values
