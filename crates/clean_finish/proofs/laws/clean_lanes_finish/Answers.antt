use Rattle.clean_finish.proofs.LanesFinish.{lanes_finish}
use Rattle.clean_finish.proofs.laws.clean_lanes_finish.Goals as goal

pub returns : goal.returns
returns c = lanes_finish
