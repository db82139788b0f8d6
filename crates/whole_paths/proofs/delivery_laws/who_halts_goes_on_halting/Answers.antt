use Rattle.whole_paths.proofs.Halting as halting
use Rattle.whole_paths.proofs.delivery_laws.who_halts_goes_on_halting.Goals as goal

pub returns : goal.returns
returns c = halting.who_halts_goes_on_halting
