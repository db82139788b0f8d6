use Rattle.path_core.specs.Octets.{octets}
use Rattle.path_core.specs.Values.{values}
use Rattle.whole_paths.proofs.SetTimers as timing
use Rattle.whole_paths.proofs.laws.each_timer_runs_for_a_second.Goals as goal

pub returns-clause-octets : goal.returns-clause-octets
returns-clause-octets c = timing.each_timer_runs_for_a_second octets

pub returns-clause-values : goal.returns-clause-values
returns-clause-values c = timing.each_timer_runs_for_a_second values
