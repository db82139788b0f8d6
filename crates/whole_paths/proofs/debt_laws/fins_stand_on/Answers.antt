use Rattle.whole_paths.proofs.FinDebts.{fins_stand_on}
use Rattle.whole_paths.proofs.FinWaits.{fins_go_again}
use Rattle.whole_paths.proofs.debt_laws.fins_stand_on.Goals as goal

pub returns-clause-stands : goal.returns-clause-stands
returns-clause-stands c = fins_stand_on

pub returns-clause-again : goal.returns-clause-again
returns-clause-again c = fins_go_again
