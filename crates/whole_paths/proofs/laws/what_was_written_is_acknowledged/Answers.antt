use Rattle.whole_paths.proofs.OnePath as one_path
use Rattle.whole_paths.proofs.laws.what_was_written_is_acknowledged.Goals as goal

pub returns-clause-octets : goal.returns-clause-octets
returns-clause-octets c = one_path.what_was_written_is_acknowledged_in_octets

pub returns-clause-values : goal.returns-clause-values
returns-clause-values c = one_path.what_was_written_is_acknowledged

pub returns-clause-idle_octets : goal.returns-clause-idle_octets
returns-clause-idle_octets c = one_path.what_idle_ends_wrote_is_acknowledged_in_octets

pub returns-clause-idle_values : goal.returns-clause-idle_values
returns-clause-idle_values c = one_path.what_idle_ends_wrote_is_acknowledged
