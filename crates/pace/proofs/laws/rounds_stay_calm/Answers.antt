use Rattle.pace.proofs.Calming.{first_rounds, later_rounds}
use Rattle.pace.proofs.laws.rounds_stay_calm.Goals as goal

pub returns-clause-first : goal.returns-clause-first
returns-clause-first c = first_rounds

pub returns-clause-later : goal.returns-clause-later
returns-clause-later c = later_rounds
