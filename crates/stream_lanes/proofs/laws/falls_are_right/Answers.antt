use Rattle.stream_lanes.proofs.Promises.{falls_are_right}
use Rattle.stream_lanes.proofs.laws.falls_are_right.Goals as goal

pub returns : goal.returns
returns c = falls_are_right
