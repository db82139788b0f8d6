use Rattle.whole_paths.proofs.WellOctets as octets
use Rattle.whole_paths.proofs.delivery_laws.well_octets_come.Goals as goal

pub returns : goal.returns
returns c = octets.well_octets_come
