use Rattle.clean_finish.proofs.Finished as finished
use Rattle.clean_finish.proofs.laws.clean_scripts_finish.Goals as goal

pub returns-clause-finish : goal.returns-clause-finish
returns-clause-finish c = finished.clean_scripts_finish

pub returns-clause-go_on : goal.returns-clause-go_on
returns-clause-go_on c = finished.clean_scripts_go_on
