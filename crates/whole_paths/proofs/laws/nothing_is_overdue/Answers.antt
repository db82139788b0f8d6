use Rattle.path_core.specs.Octets.{octets}
use Rattle.path_core.specs.Values.{values}
use Rattle.whole_paths.proofs.InTime as clock
use Rattle.whole_paths.proofs.laws.nothing_is_overdue.Goals as goal

pub returns-clause-octets : goal.returns-clause-octets
returns-clause-octets c = clock.nothing_is_overdue octets

pub returns-clause-values : goal.returns-clause-values
returns-clause-values c = clock.nothing_is_overdue values
