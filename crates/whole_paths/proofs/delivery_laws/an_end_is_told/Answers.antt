use Rattle.whole_paths.proofs.EndRounds as ends
use Rattle.whole_paths.proofs.delivery_laws.an_end_is_told.Goals as goal

pub returns : goal.returns
returns c = ends.an_end_is_told
