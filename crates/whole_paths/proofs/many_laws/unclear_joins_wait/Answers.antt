use Rattle.whole_paths.proofs.UnclearJoins.{unclear_joins_wait, unclear_joins_wait_in_octets}
use Rattle.whole_paths.proofs.many_laws.unclear_joins_wait.Goals as goal

pub returns-clause-octets : goal.returns-clause-octets
returns-clause-octets c = unclear_joins_wait_in_octets

pub returns-clause-values : goal.returns-clause-values
returns-clause-values c = unclear_joins_wait
