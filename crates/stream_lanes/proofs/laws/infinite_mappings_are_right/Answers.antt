use Rattle.stream_lanes.proofs.Promises.{infinite_mappings_are_right}
use Rattle.stream_lanes.proofs.laws.infinite_mappings_are_right.Goals as goal

pub returns : goal.returns
returns c = infinite_mappings_are_right
