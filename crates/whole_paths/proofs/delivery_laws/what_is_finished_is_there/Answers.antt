use Rattle.whole_paths.proofs.FinishedThere as there
use Rattle.whole_paths.proofs.delivery_laws.what_is_finished_is_there.Goals as goal

pub returns : goal.returns
returns c = there.each_finished_is_there
