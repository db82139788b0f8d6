use Rattle.whole_paths.proofs.Directions as directions
use Rattle.whole_paths.proofs.debt_laws.directions_go_on.Goals as goal

pub returns-clause-told : goal.returns-clause-told
returns-clause-told c = directions.who_is_told_but_stays_so

pub returns-clause-debts : goal.returns-clause-debts
returns-clause-debts c = directions.directions_go_on

pub returns-clause-free : goal.returns-clause-free
returns-clause-free c = directions.what_owes_none_is_well
