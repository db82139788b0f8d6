use Rattle.pace.proofs.Telling.{courses_told}
use Rattle.pace.proofs.laws.both_ends_are_told.Goals as goal

pub returns : goal.returns
returns c = courses_told
