use Rattle.path_core.specs.Octets.{octets}
use Rattle.path_core.specs.Values.{values}
use Rattle.whole_paths.proofs.Deaths as dying
use Rattle.whole_paths.proofs.laws.ends_die_of_their_causes.Goals as goal

pub returns-clause-octets : goal.returns-clause-octets
returns-clause-octets c = dying.ends_die_of_their_causes octets

pub returns-clause-values : goal.returns-clause-values
returns-clause-values c = dying.ends_die_of_their_causes values
