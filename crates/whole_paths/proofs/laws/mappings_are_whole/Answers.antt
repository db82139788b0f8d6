use Rattle.whole_paths.proofs.WholeMappings as mappings
use Rattle.whole_paths.proofs.laws.mappings_are_whole.Goals as goal

pub returns : goal.returns
returns c = mappings.each_mapping_is_whole
