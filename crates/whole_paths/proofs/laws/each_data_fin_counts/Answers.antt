use Rattle.path_core.specs.Octets.{octets}
use Rattle.path_core.specs.Values.{values}
use Rattle.whole_paths.proofs.Closing as closing
use Rattle.whole_paths.proofs.ClosingAsked as asked
use Rattle.whole_paths.proofs.laws.each_data_fin_counts.Goals as goal

pub returns-clause-octets : goal.returns-clause-octets
returns-clause-octets c = closing.each_data_fin_counts octets

pub returns-clause-values : goal.returns-clause-values
returns-clause-values c = closing.each_data_fin_counts values

pub returns-clause-says : goal.returns-clause-says
returns-clause-says c = closing.each_data_fin_is_said

pub returns-clause-comes : goal.returns-clause-comes
returns-clause-comes c = asked.each_data_fin_comes
