use Rattle.world_laws.proofs.Promises.Made.{nothing_refused, nothing_refused_in_octets}
use Rattle.world_laws.proofs.laws.nothing_is_refused.Goals as goal

pub returns-clause-values : goal.returns-clause-values
returns-clause-values c = nothing_refused

pub returns-clause-octets : goal.returns-clause-octets
returns-clause-octets c = nothing_refused_in_octets
