use Rattle.own_runs.proofs.Packets.{are_their_packets}
use Rattle.own_runs.proofs.laws.captures_are_their_packets.Goals as goal

pub returns : goal.returns
returns c = are_their_packets
