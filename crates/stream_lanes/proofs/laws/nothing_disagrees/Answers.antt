use Rattle.stream_lanes.proofs.Promises.{nothing_disagrees}
use Rattle.stream_lanes.proofs.laws.nothing_disagrees.Goals as goal

pub returns : goal.returns
returns c = nothing_disagrees
