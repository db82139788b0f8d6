use Rattle.path_core.specs.Octets.{octets}
use Rattle.path_core.specs.Values.{values}
use Rattle.whole_paths.proofs.StandbyRounds as holding
use Rattle.whole_paths.proofs.holder_laws.who_stood_by_was_served.Goals as goal

pub returns-clause-octets : goal.returns-clause-octets
returns-clause-octets c = holding.who_stood_by_was_served octets

pub returns-clause-values : goal.returns-clause-values
returns-clause-values c = holding.who_stood_by_was_served values
