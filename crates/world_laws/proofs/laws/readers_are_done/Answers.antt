use Rattle.world_laws.proofs.Words.{values, octets}
use Rattle.world_laws.proofs.Rounds.ReadersEnd as reads
use Rattle.world_laws.proofs.laws.readers_are_done.Goals as goal

pub returns-clause-octets : goal.returns-clause-octets
returns-clause-octets c = reads.readers_are_done octets

pub returns-clause-values : goal.returns-clause-values
returns-clause-values c = reads.readers_are_done values
