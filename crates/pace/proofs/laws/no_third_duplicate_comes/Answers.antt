use Rattle.std.proofs.Common.{arith}
use Rattle.pace.proofs.laws.no_third_duplicate_comes.Goals as goal

pub returns : goal.returns
returns c k ranges s t p w h said = omega (arith, said, h.repeats.few, h.numbers)
