use Rattle.path_core.specs.Octets.{octets}
use Rattle.path_core.specs.Values.{values}
use Rattle.whole_paths.proofs.Waiting as waiting
use Rattle.whole_paths.proofs.laws.no_timer_is_put_off.Goals as goal

pub returns-clause-octets : goal.returns-clause-octets
returns-clause-octets c = waiting.no_timer_is_put_off octets

pub returns-clause-values : goal.returns-clause-values
returns-clause-values c = waiting.no_timer_is_put_off values
