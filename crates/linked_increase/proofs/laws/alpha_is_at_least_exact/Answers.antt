use Rattle.linked_increase.proofs.Exactness.{alpha_is_at_least_exact}
use Rattle.linked_increase.proofs.laws.alpha_is_at_least_exact.Goals as goal

pub returns : goal.returns
returns c = alpha_is_at_least_exact
