use Rattle.world_laws.proofs.Words.{values, octets}
use Rattle.world_laws.proofs.Rounds.DoneByTheEnd as done
use Rattle.world_laws.proofs.laws.rounds_end_on_time.Goals as goal

pub returns-clause-octets : goal.returns-clause-octets
returns-clause-octets c = done.rounds_end_on_time octets

pub returns-clause-values : goal.returns-clause-values
returns-clause-values c = done.rounds_end_on_time values
