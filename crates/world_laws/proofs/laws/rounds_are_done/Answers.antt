use Rattle.world_laws.proofs.Words.{values, octets}
use Rattle.world_laws.proofs.Rounds.DoneByTheEnd as done
use Rattle.world_laws.proofs.laws.rounds_are_done.Goals as goal

pub returns-clause-octets : goal.returns-clause-octets
returns-clause-octets c = done.rounds_are_done octets

pub returns-clause-values : goal.returns-clause-values
returns-clause-values c = done.rounds_are_done values

pub returns-clause-octets_lawful : goal.returns-clause-octets_lawful
returns-clause-octets_lawful c = done.lawful_rounds_are_done octets

pub returns-clause-values_lawful : goal.returns-clause-values_lawful
returns-clause-values_lawful c = done.lawful_rounds_are_done values
