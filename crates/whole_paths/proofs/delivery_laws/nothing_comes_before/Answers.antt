use Rattle.whole_paths.proofs.EdgesStay.{nothing_comes_before}
use Rattle.whole_paths.proofs.delivery_laws.nothing_comes_before.Goals as goal

pub returns : goal.returns
returns c = nothing_comes_before
