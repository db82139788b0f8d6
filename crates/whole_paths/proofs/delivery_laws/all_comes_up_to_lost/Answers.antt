use Rattle.whole_paths.proofs.WellOctets as octets
use Rattle.whole_paths.proofs.delivery_laws.all_comes_up_to_lost.Goals as goal

pub returns : goal.returns
returns c = octets.all_comes_up_to_lost
