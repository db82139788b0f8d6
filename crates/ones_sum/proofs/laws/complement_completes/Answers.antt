use Rattle.ones_sum.proofs.Folding.{folded-completed, folded-completed_data}
use Rattle.ones_sum.proofs.laws.complement_completes.Goals as goal

pub returns-clause-sums : goal.returns-clause-sums
returns-clause-sums c = folded-completed

pub returns-clause-octets : goal.returns-clause-octets
returns-clause-octets c = folded-completed_data
