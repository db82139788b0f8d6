use Rattle.whole_paths.proofs.Outstanding as awaited
use Rattle.whole_paths.proofs.delivery_laws.what_is_outstanding_is_awaited.Goals as goal

pub returns : goal.returns
returns c = awaited.what_is_outstanding_is_awaited
