use Rattle.whole_paths.proofs.AwaitedThere as there
use Rattle.whole_paths.proofs.delivery_laws.what_is_awaited_is_there.Goals as goal

pub returns : goal.returns
returns c = there.what_is_awaited_is_there
