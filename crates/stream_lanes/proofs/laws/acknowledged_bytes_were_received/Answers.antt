use Rattle.stream_lanes.proofs.Promises.{acknowledges_received_bytes}
use Rattle.stream_lanes.proofs.laws.acknowledged_bytes_were_received.Goals as goal

pub returns : goal.returns
returns c = acknowledges_received_bytes
