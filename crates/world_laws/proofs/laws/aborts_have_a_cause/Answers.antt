use Rattle.world_laws.proofs.Promises.AbortsHaveACause.{aborts_have_cause, aborts_have_cause_in_octets}
use Rattle.world_laws.proofs.laws.aborts_have_a_cause.Goals as goal

pub returns-clause-values : goal.returns-clause-values
returns-clause-values c = aborts_have_cause

pub returns-clause-octets : goal.returns-clause-octets
returns-clause-octets c = aborts_have_cause_in_octets
