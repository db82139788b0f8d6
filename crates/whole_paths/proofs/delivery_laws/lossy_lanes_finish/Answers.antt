use Rattle.whole_paths.proofs.Lanes.Ending.{lanes_end, lanes_finish}
use Rattle.whole_paths.proofs.delivery_laws.lossy_lanes_finish.Goals as goal

pub returns-clause-end : goal.returns-clause-end
returns-clause-end c = lanes_end

pub returns-clause-finish : goal.returns-clause-finish
returns-clause-finish c = lanes_finish
