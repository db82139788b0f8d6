use Rattle.linked_increase.proofs.Rounding.{sum_rounds_down}
use Rattle.linked_increase.proofs.laws.sum_rounds_down.Goals as goal

pub returns : goal.returns
returns c = sum_rounds_down
