use Rattle.world_laws.proofs.Words.{values, octets}
use Rattle.world_laws.proofs.Rounds.ReadAll.{readers_caught_up}
use Rattle.world_laws.proofs.laws.readers_catch_up.Goals as goal

pub returns-clause-octets : goal.returns-clause-octets
returns-clause-octets c = readers_caught_up octets

pub returns-clause-values : goal.returns-clause-values
returns-clause-values c = readers_caught_up values
