use Rattle.std.proofs.Math.Nat.{min-le_right}
use Rattle.linked_increase.specs.Scaled.{growth_of}
use Rattle.linked_increase.proofs.laws.growth_is_no_faster_than_alone.Goals as goal

pub returns : goal.returns
unfolding growth_of
returns c row rows mss acked = min-le_right _ _
