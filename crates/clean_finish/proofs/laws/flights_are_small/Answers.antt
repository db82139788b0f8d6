use Rattle.clean_finish.proofs.Machine.{flights_are_small}
use Rattle.clean_finish.proofs.laws.flights_are_small.Goals as goal

pub returns : goal.returns
returns c = flights_are_small
