use Rattle.whole_paths.proofs.SignWaits as waits
use Rattle.whole_paths.proofs.delivery_laws.first_signs_are_awaited.Goals as goal

pub returns : goal.returns
returns c = waits.first_signs_are_awaited
