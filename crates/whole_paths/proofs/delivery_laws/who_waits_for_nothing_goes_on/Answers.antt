use Rattle.whole_paths.proofs.GoingOn as going
use Rattle.whole_paths.proofs.delivery_laws.who_waits_for_nothing_goes_on.Goals as goal

pub returns-clause-begins : goal.returns-clause-begins
returns-clause-begins c = going.rounds_begin_to_go_on

pub returns-clause-steps : goal.returns-clause-steps
returns-clause-steps c = going.steps_let_it_go_on

pub returns-clause-rounds : goal.returns-clause-rounds
returns-clause-rounds c = going.rounds_go_on

pub returns-clause-ends : goal.returns-clause-ends
returns-clause-ends c = going.ends_go_on
