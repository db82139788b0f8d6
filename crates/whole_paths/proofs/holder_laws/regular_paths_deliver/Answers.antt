use Rattle.whole_paths.proofs.RegularPaths as regular
use Rattle.whole_paths.proofs.holder_laws.regular_paths_deliver.Goals as goal

pub returns-clause-octets : goal.returns-clause-octets
returns-clause-octets c = regular.regular_paths_deliver_in_octets

pub returns-clause-values : goal.returns-clause-values
returns-clause-values c = regular.regular_paths_deliver
