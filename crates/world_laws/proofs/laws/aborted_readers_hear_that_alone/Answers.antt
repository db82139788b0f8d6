use Rattle.world_laws.proofs.Words.{values, octets}
use Rattle.world_laws.proofs.Promises.AbortedHearThatAlone.{abort_is_last}
use Rattle.world_laws.proofs.laws.aborted_readers_hear_that_alone.Goals as goal

pub returns-clause-octets : goal.returns-clause-octets
returns-clause-octets c = abort_is_last octets

pub returns-clause-values : goal.returns-clause-values
returns-clause-values c = abort_is_last values
