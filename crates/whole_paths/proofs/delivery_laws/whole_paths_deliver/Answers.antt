use Rattle.whole_paths.proofs.OnlyPaths as only_paths
use Rattle.whole_paths.proofs.delivery_laws.whole_paths_deliver.Goals as goal

pub returns-clause-octets : goal.returns-clause-octets
returns-clause-octets c = only_paths.whole_paths_deliver_in_octets

pub returns-clause-values : goal.returns-clause-values
returns-clause-values c = only_paths.whole_paths_deliver

pub returns-clause-ends_octets : goal.returns-clause-ends_octets
returns-clause-ends_octets c = only_paths.paths_end_in_octets

pub returns-clause-ends_values : goal.returns-clause-ends_values
returns-clause-ends_values c = only_paths.paths_end
