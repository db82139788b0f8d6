use Rattle.world_laws.proofs.Words.{values, octets}
use Rattle.world_laws.proofs.Standby.GrantedNothing.{backups_get_nothing}
use Rattle.world_laws.proofs.laws.backups_get_nothing.Goals as goal

pub returns-clause-octets : goal.returns-clause-octets
returns-clause-octets c = backups_get_nothing octets

pub returns-clause-values : goal.returns-clause-values
returns-clause-values c = backups_get_nothing values
