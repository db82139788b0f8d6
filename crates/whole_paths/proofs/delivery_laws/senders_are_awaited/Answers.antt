use Rattle.whole_paths.proofs.SenderWaits as waits
use Rattle.whole_paths.proofs.delivery_laws.senders_are_awaited.Goals as goal

pub returns : goal.returns
returns c = waits.senders_are_awaited
