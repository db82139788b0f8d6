use Rattle.path_core.specs.Octets.{octets}
use Rattle.path_core.specs.Values.{values}
use Rattle.whole_paths.proofs.WindowsHeard as windows
use Rattle.whole_paths.proofs.laws.each_window_counts.Goals as goal

pub returns-clause-octets : goal.returns-clause-octets
returns-clause-octets c = windows.each_window_counts octets

pub returns-clause-values : goal.returns-clause-values
returns-clause-values c = windows.each_window_counts values
