use Rattle.path_core.specs.Octets.{octets}
use Rattle.path_core.specs.Values.{values}
use Rattle.whole_paths.proofs.DataAcksOwed as owed
use Rattle.whole_paths.proofs.laws.what_is_owed_has_a_data_ack.Goals as goal

pub returns-clause-octets : goal.returns-clause-octets
returns-clause-octets c = owed.what_is_owed_has_a_data_ack octets

pub returns-clause-values : goal.returns-clause-values
returns-clause-values c = owed.what_is_owed_has_a_data_ack values
