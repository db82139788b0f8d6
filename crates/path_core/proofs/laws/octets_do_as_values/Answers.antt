use Rattle.path_core.proofs.Showing.{asks_the_same, begins_the_same, takes_the_same}
use Rattle.path_core.proofs.laws.octets_do_as_values.Goals as goal

pub returns-clause-asks : goal.returns-clause-asks
returns-clause-asks c = asks_the_same

pub returns-clause-takes : goal.returns-clause-takes
returns-clause-takes c = takes_the_same

pub returns-clause-rounds : goal.returns-clause-rounds
returns-clause-rounds c = begins_the_same
