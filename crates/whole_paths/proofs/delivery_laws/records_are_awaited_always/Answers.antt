use Rattle.whole_paths.proofs.RecordWaits as waits
use Rattle.whole_paths.proofs.delivery_laws.records_are_awaited_always.Goals as goal

pub returns : goal.returns
returns c = waits.records_are_awaited_always
