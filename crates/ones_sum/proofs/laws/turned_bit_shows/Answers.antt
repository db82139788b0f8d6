use Rattle.ones_sum.proofs.Turned.{folded-turned}
use Rattle.ones_sum.proofs.laws.turned_bit_shows.Goals as goal

pub returns : goal.returns
returns c = folded-turned
