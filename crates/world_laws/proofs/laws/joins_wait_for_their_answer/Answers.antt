use Rattle.world_laws.proofs.Words.{values, octets}
use Rattle.world_laws.proofs.Joins.NoBytesBeforeClear.{joins_wait}
use Rattle.world_laws.proofs.laws.joins_wait_for_their_answer.Goals as goal

pub returns-clause-octets : goal.returns-clause-octets
returns-clause-octets c = joins_wait octets

pub returns-clause-values : goal.returns-clause-values
returns-clause-values c = joins_wait values
