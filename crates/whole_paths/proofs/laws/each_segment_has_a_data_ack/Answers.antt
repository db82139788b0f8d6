use Rattle.whole_paths.proofs.DataAcks as acks
use Rattle.whole_paths.proofs.laws.each_segment_has_a_data_ack.Goals as goal

pub returns-clause-octets : goal.returns-clause-octets
returns-clause-octets c = acks.each_segment_has_a_data_ack

pub returns-clause-values : goal.returns-clause-values
returns-clause-values c = acks.each_segment_has_a_data_ack
