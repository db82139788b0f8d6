use Rattle.whole_paths.proofs.EndedStreams as ended
use Rattle.whole_paths.proofs.delivery_laws.what_ended_is_acknowledged.Goals as goal

pub returns-clause-octets : goal.returns-clause-octets
returns-clause-octets c = ended.what_ended_is_acknowledged_in_octets

pub returns-clause-values : goal.returns-clause-values
returns-clause-values c = ended.what_ended_is_acknowledged
