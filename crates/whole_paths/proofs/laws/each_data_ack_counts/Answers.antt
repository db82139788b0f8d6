use Rattle.path_core.specs.Octets.{octets}
use Rattle.path_core.specs.Values.{values}
use Rattle.whole_paths.proofs.DataAcksHeard as heard
use Rattle.whole_paths.proofs.laws.each_data_ack_counts.Goals as goal

pub returns-clause-octets : goal.returns-clause-octets
returns-clause-octets c = heard.each_data_ack_counts octets

pub returns-clause-values : goal.returns-clause-values
returns-clause-values c = heard.each_data_ack_counts values

pub returns-clause-says : goal.returns-clause-says
returns-clause-says c = heard.each_data_ack_is_said
