use Rattle.stream_lanes.proofs.Promises.{placed_before_the_fall, prefix_before_the_fall}
use Rattle.stream_lanes.proofs.laws.placed_before_a_fall_is_right.Goals as goal

pub returns-clause-placed : goal.returns-clause-placed
returns-clause-placed c = placed_before_the_fall

pub returns-clause-prefix : goal.returns-clause-prefix
returns-clause-prefix c = prefix_before_the_fall
