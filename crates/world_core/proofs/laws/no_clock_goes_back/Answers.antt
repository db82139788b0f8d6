use Rattle.path_core.specs.Octets.{octets}
use Rattle.world_core.proofs.Clocks.{takes_clock}
use Rattle.world_core.proofs.TimedRounds as timed
use Rattle.world_core.proofs.laws.no_clock_goes_back.Goals as goal

pub returns-clause-rises : goal.returns-clause-rises
returns-clause-rises c = timed.no_clock_goes_back octets

pub returns-clause-clocks : goal.returns-clause-clocks
returns-clause-clocks c = λ p r going. takes_clock octets r p going
