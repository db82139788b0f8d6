use Rattle.whole_paths.proofs.Keyed as keyed
use Rattle.whole_paths.proofs.delivery_laws.mild_scripts_tell_keys.Goals as goal

pub returns-clause-values : goal.returns-clause-values
returns-clause-values c = keyed.keys_are_known

pub returns-clause-octets : goal.returns-clause-octets
returns-clause-octets c = keyed.keys_are_known_in_octets
