use Rattle.whole_paths.proofs.Mild as mild
use Rattle.whole_paths.proofs.delivery_laws.mild_scripts_keep_mapping.Goals as goal

pub returns-clause-starts : goal.returns-clause-starts
returns-clause-starts c = mild.mild_scripts_start_mildly

pub returns-clause-values : goal.returns-clause-values
returns-clause-values c = mild.mapping_is_kept

pub returns-clause-octets : goal.returns-clause-octets
returns-clause-octets c = mild.mapping_is_kept_in_octets
