use Rattle.whole_paths.proofs.WindowWaits as waits
use Rattle.whole_paths.proofs.many_laws.shut_ends_are_awaited.Goals as goal

pub returns : goal.returns
returns c = waits.shut_ends_are_awaited
