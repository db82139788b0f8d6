use Rattle.world_laws.proofs.Words.{values, octets}
use Rattle.world_laws.proofs.Rounds.DoneByTheEnd.{stays_fine}
use Rattle.world_laws.proofs.laws.what_is_fine_stays_fine.Goals as goal

pub returns-clause-octets : goal.returns-clause-octets
returns-clause-octets c = stays_fine octets

pub returns-clause-values : goal.returns-clause-values
returns-clause-values c = stays_fine values
