use Rattle.whole_paths.proofs.OctetsPassed as octets
use Rattle.whole_paths.proofs.delivery_laws.octets_are_passed.Goals as goal

pub returns : goal.returns
returns c = octets.octets_are_passed
