use Rattle.whole_paths.proofs.WindowWaits as waits
use Rattle.whole_paths.proofs.delivery_laws.windows_are_awaited_always.Goals as goal

pub returns : goal.returns
returns c = waits.windows_are_awaited_always
