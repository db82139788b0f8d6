use Rattle.path_core.specs.Octets.{octets}
use Rattle.path_core.specs.Values.{values}
use Rattle.whole_paths.proofs.DataAcksNow as acks_now
use Rattle.whole_paths.proofs.laws.each_data_ack_is_up_to_date.Goals as goal

pub returns-clause-octets : goal.returns-clause-octets
returns-clause-octets c = acks_now.each_data_ack_is_up_to_date octets

pub returns-clause-values : goal.returns-clause-values
returns-clause-values c = acks_now.each_data_ack_is_up_to_date values
