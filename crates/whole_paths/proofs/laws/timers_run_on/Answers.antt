use Rattle.path_core.specs.Octets.{octets}
use Rattle.path_core.specs.Values.{values}
use Rattle.whole_paths.proofs.Running as running
use Rattle.whole_paths.proofs.laws.timers_run_on.Goals as goal

pub returns-clause-octets : goal.returns-clause-octets
returns-clause-octets c = running.timers_run_on octets

pub returns-clause-values : goal.returns-clause-values
returns-clause-values c = running.timers_run_on values
