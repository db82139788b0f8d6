use Rattle.world_laws.proofs.Promises.OfScripts as scripts
use Rattle.world_laws.proofs.laws.scripts_can_run.Goals as goal

pub returns : goal.returns
returns c = scripts.scripts_can_run
