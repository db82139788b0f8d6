use Rattle.world_laws.proofs.Words.{values, octets}
use Rattle.world_laws.proofs.Rounds.AskedForAll.{paths_ask}
use Rattle.world_laws.proofs.laws.paths_ask_for_all.Goals as goal

pub returns-clause-octets : goal.returns-clause-octets
returns-clause-octets c = paths_ask octets

pub returns-clause-values : goal.returns-clause-values
returns-clause-values c = paths_ask values
