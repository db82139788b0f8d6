use Rattle.world_laws.proofs.Numbers.LowHalves.{short_numbers}
use Rattle.world_laws.proofs.laws.short_numbers_are_low_halves.Goals as goal

pub returns : goal.returns
returns c = short_numbers
