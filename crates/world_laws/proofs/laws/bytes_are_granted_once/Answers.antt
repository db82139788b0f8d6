use Rattle.world_laws.proofs.Words.{values, octets}
use Rattle.world_laws.proofs.Places.GrantedOnce.{granted_once}
use Rattle.world_laws.proofs.laws.bytes_are_granted_once.Goals as goal

pub returns-clause-octets : goal.returns-clause-octets
returns-clause-octets c = granted_once octets

pub returns-clause-values : goal.returns-clause-values
returns-clause-values c = granted_once values
