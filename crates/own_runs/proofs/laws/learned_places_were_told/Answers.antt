use Rattle.own_runs.proofs.LearnedTold.{places_told}
use Rattle.own_runs.proofs.laws.learned_places_were_told.Goals as goal

pub returns : goal.returns
returns c = places_told
