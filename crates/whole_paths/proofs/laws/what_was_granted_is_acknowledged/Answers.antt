use Rattle.whole_paths.proofs.Acknowledged as granted
use Rattle.whole_paths.proofs.laws.what_was_granted_is_acknowledged.Goals as goal

pub returns-clause-values : goal.returns-clause-values
returns-clause-values c = granted.what_was_granted_is_acknowledged

pub returns-clause-octets : goal.returns-clause-octets
returns-clause-octets c = granted.what_was_granted_is_acknowledged_in_octets
