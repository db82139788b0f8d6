use Rattle.clean_finish.proofs.Machine.{settles_as_a_lane}
use Rattle.clean_finish.proofs.laws.timers_settle_as_in_lanes.Goals as goal

pub returns : goal.returns
returns c = settles_as_a_lane
