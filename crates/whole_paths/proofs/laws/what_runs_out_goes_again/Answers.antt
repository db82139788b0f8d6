use Rattle.path_core.specs.Octets.{octets}
use Rattle.path_core.specs.Values.{values}
use Rattle.whole_paths.proofs.Resending as resending
use Rattle.whole_paths.proofs.laws.what_runs_out_goes_again.Goals as goal

pub returns-clause-octets : goal.returns-clause-octets
returns-clause-octets c = resending.what_runs_out_goes_again octets

pub returns-clause-values : goal.returns-clause-values
returns-clause-values c = resending.what_runs_out_goes_again values
