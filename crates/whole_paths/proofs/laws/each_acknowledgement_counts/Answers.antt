use Rattle.path_core.specs.Octets.{octets}
use Rattle.path_core.specs.Values.{values}
use Rattle.whole_paths.proofs.Hearing as hearing
use Rattle.whole_paths.proofs.laws.each_acknowledgement_counts.Goals as goal

pub returns-clause-octets : goal.returns-clause-octets
returns-clause-octets c = hearing.each_acknowledgement_counts octets

pub returns-clause-values : goal.returns-clause-values
returns-clause-values c = hearing.each_acknowledgement_counts values
