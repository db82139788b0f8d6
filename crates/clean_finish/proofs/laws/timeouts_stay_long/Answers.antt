use Rattle.clean_finish.proofs.Machine.{stays_long}
use Rattle.clean_finish.proofs.laws.timeouts_stay_long.Goals as goal

pub returns : goal.returns
returns c = stays_long
