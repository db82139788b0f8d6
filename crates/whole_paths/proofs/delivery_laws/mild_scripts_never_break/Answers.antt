use Rattle.whole_paths.proofs.Breaking as breaking
use Rattle.whole_paths.proofs.delivery_laws.mild_scripts_never_break.Goals as goal

pub returns-clause-values : goal.returns-clause-values
returns-clause-values c = breaking.never_breaks

pub returns-clause-octets : goal.returns-clause-octets
returns-clause-octets c = breaking.never_breaks_in_octets
