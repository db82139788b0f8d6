use Rattle.stream_lanes.proofs.Promises.{reads_a_prefix}
use Rattle.stream_lanes.proofs.laws.readers_get_a_prefix.Goals as goal

pub returns : goal.returns
returns c = reads_a_prefix
