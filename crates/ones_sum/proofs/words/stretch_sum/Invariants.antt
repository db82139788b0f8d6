use Rattle.std.proofs.Common.{◌-◌, length}
use Rattle.ones_sum.proofs.Lanes.{AreSummed}
use Rattle.ones_sum.proofs.words.stretch_sum.Given as goal

abbrev pub invariant-loop-at : goal.invariant-loop-at
invariant-loop-at l = AreSummed l.octets l.at l.high l.low

abbrev pub decreases-loop-at : goal.decreases-loop-at
decreases-loop-at l = length l.octets - l.at
