use Rattle.world_laws.proofs.Words.{values, octets}
use Rattle.world_laws.proofs.Rounds.FromTheOpening as starts
use Rattle.world_laws.proofs.laws.serial_exists.Goals as goal

pub returns-clause-octets : goal.returns-clause-octets
returns-clause-octets c = starts.serial_exists octets

pub returns-clause-values : goal.returns-clause-values
returns-clause-values c = starts.serial_exists values
