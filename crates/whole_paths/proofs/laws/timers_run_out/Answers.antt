use Rattle.path_core.specs.Octets.{octets}
use Rattle.path_core.specs.Values.{values}
use Rattle.whole_paths.proofs.Timing as timing
use Rattle.whole_paths.proofs.laws.timers_run_out.Goals as goal

pub returns-clause-octets : goal.returns-clause-octets
returns-clause-octets c = timing.timers_run_out octets

pub returns-clause-values : goal.returns-clause-values
returns-clause-values c = timing.timers_run_out values
