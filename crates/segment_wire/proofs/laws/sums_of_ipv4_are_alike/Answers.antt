use Rattle.segment_wire.proofs.Sums as sums
use Rattle.segment_wire.proofs.laws.sums_of_ipv4_are_alike.Goals as goal

pub returns : goal.returns
returns c = sums.sums_of_ipv4_are_alike
