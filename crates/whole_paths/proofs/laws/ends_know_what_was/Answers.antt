use Rattle.path_core.specs.Octets.{octets}
use Rattle.path_core.specs.Values.{values}
use Rattle.whole_paths.proofs.KnownModes as known
use Rattle.whole_paths.proofs.laws.ends_know_what_was.Goals as goal

pub returns-clause-octets : goal.returns-clause-octets
returns-clause-octets c = known.ends_know_what_was octets

pub returns-clause-values : goal.returns-clause-values
returns-clause-values c = known.ends_know_what_was values

pub returns-clause-mild : goal.returns-clause-mild
returns-clause-mild c = known.no_end_knows_of_a_fallback
