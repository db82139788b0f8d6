use Rattle.whole_paths.proofs.MoreOwed as more
use Rattle.whole_paths.proofs.delivery_laws.what_rises_is_owed.Goals as goal

pub returns : goal.returns
returns c = more.what_rises_is_owed
