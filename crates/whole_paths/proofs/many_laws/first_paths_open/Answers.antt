use Rattle.whole_paths.proofs.OpeningEnds as opens
use Rattle.whole_paths.proofs.many_laws.first_paths_open.Goals as goal

pub returns : goal.returns
returns c = opens.first_paths_open_within
