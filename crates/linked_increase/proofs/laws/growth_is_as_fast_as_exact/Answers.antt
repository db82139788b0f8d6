use Rattle.linked_increase.proofs.Closeness.{growth_is_as_fast_as_exact}
use Rattle.linked_increase.proofs.laws.growth_is_as_fast_as_exact.Goals as goal

pub returns : goal.returns
returns c = growth_is_as_fast_as_exact
