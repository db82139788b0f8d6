use Rattle.world_laws.proofs.Promises.OfScripts as scripts
use Rattle.world_laws.proofs.laws.plain_scripts_keep_all_promises.Goals as goal

pub returns-clause-starts : goal.returns-clause-starts
returns-clause-starts c = scripts.plain_scripts_start_plainly

pub returns-clause-promises : goal.returns-clause-promises
returns-clause-promises c = scripts.plain_scripts_keep_all_promises
