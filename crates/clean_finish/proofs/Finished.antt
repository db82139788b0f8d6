-- Clean scripts finish, as all duties of a path keep the relation.
use Rattle.clean_finish.proofs.Words.{CleanScriptsFinish, CleanScriptsGoOn}
use Rattle.clean_finish.proofs.CleanFinish as clean
use Rattle.clean_finish.proofs.Dispatch.{duties_go_on}

pub clean_scripts_finish : CleanScriptsFinish
clean_scripts_finish = clean.clean_scripts_finish duties_go_on

pub clean_scripts_go_on : CleanScriptsGoOn
clean_scripts_go_on = clean.clean_scripts_go_on duties_go_on
