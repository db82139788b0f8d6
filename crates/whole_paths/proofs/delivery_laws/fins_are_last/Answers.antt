use Rattle.whole_paths.proofs.LastFin as last
use Rattle.whole_paths.proofs.delivery_laws.fins_are_last.Goals as goal

pub returns : goal.returns
returns c = last.fins_are_last
