use Rattle.path_core.specs.Octets.{octets}
use Rattle.path_core.specs.Values.{values}
use Rattle.whole_paths.proofs.OpeningConfirmed as confirmed
use Rattle.whole_paths.proofs.laws.each_confirmation_counts.Goals as goal

pub returns-clause-octets : goal.returns-clause-octets
returns-clause-octets c = confirmed.each_confirmation_counts octets

pub returns-clause-values : goal.returns-clause-values
returns-clause-values c = confirmed.each_confirmation_counts values

pub returns-clause-says : goal.returns-clause-says
returns-clause-says c = confirmed.signs_are_said
