use Rattle.whole_paths.proofs.FirstAwaited as records
use Rattle.whole_paths.proofs.debt_laws.lost_records_are_awaited.Goals as goal

pub returns : goal.returns
returns c = records.lost_records_are_awaited
