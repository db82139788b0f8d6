use Rattle.whole_paths.proofs.Writers as writers
use Rattle.whole_paths.proofs.laws.writers_go_on.Goals as goal

pub returns-clause-octets : goal.returns-clause-octets
returns-clause-octets c = writers.writers_go_on_in_octets

pub returns-clause-values : goal.returns-clause-values
returns-clause-values c = writers.writers_go_on
