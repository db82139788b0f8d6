use Rattle.world_laws.proofs.Words.{values, octets}
use Rattle.world_laws.proofs.Rounds.AskingForNothing as asking
use Rattle.world_laws.proofs.laws.grants_are_done.Goals as goal

pub returns-clause-octets : goal.returns-clause-octets
returns-clause-octets c = asking.grants_are_done octets

pub returns-clause-values : goal.returns-clause-values
returns-clause-values c = asking.grants_are_done values
