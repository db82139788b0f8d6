use Rattle.world_laws.proofs.Words.{values, octets}
use Rattle.world_laws.proofs.Worlds.CastLifting as casts
use Rattle.world_laws.proofs.laws.nothing_due_is_left.Goals as goal

pub returns-clause-octets : goal.returns-clause-octets
returns-clause-octets c = casts.nothing_due_is_left octets

pub returns-clause-values : goal.returns-clause-values
returns-clause-values c = casts.nothing_due_is_left values
