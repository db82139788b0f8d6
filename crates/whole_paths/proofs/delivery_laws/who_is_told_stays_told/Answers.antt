use Rattle.whole_paths.proofs.ToldStays as told
use Rattle.whole_paths.proofs.delivery_laws.who_is_told_stays_told.Goals as goal

pub returns : goal.returns
returns c = told.who_is_told_stays_told
