use Rattle.path_core.specs.Octets.{octets}
use Rattle.path_core.specs.Values.{values}
use Rattle.whole_paths.proofs.GoesOn.{goes_on_so}
use Rattle.whole_paths.proofs.laws.nothing_goes_back.Goals as goal

pub returns-clause-octets : goal.returns-clause-octets
returns-clause-octets c = goes_on_so octets

pub returns-clause-values : goal.returns-clause-values
returns-clause-values c = goes_on_so values
