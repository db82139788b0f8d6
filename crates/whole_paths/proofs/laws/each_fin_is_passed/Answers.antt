use Rattle.path_core.specs.Octets.{octets}
use Rattle.path_core.specs.Values.{values}
use Rattle.whole_paths.proofs.ClosingFin as fin
use Rattle.whole_paths.proofs.laws.each_fin_is_passed.Goals as goal

pub returns-clause-octets : goal.returns-clause-octets
returns-clause-octets c = fin.each_fin_is_passed octets

pub returns-clause-values : goal.returns-clause-values
returns-clause-values c = fin.each_fin_is_passed values
