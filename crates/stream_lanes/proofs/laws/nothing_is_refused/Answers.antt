use Rattle.stream_lanes.proofs.Promises.{nothing_is_refused}
use Rattle.stream_lanes.proofs.laws.nothing_is_refused.Goals as goal

pub returns : goal.returns
returns c = nothing_is_refused
