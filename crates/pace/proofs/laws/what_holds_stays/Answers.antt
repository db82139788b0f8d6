use Rattle.pace.proofs.Beginning.{first_going}
use Rattle.pace.proofs.Moving.{moves_going}
use Rattle.pace.proofs.Calming.{calm_begins}
use Rattle.pace.proofs.laws.what_holds_stays.Goals as goal

pub returns-clause-first : goal.returns-clause-first
returns-clause-first c = first_going

pub returns-clause-moves : goal.returns-clause-moves
returns-clause-moves c k ranges s t p w h q u move = moves_going k s t p w q u move h

pub returns-clause-rounds : goal.returns-clause-rounds
returns-clause-rounds c = calm_begins
