use Rattle.whole_paths.proofs.ToldSince.{what_is_owed_is_told}
use Rattle.whole_paths.proofs.window_laws.what_is_owed_is_told.Goals as goal

pub returns : goal.returns
returns c = what_is_owed_is_told
