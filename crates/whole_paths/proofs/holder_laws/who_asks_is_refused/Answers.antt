use Rattle.path_core.specs.Octets.{octets}
use Rattle.path_core.specs.Values.{values}
use Rattle.whole_paths.proofs.Refused.{who_asks_is_refused}
use Rattle.whole_paths.proofs.holder_laws.who_asks_is_refused.Goals as goal

pub returns-clause-octets : goal.returns-clause-octets
returns-clause-octets c = who_asks_is_refused octets

pub returns-clause-values : goal.returns-clause-values
returns-clause-values c = who_asks_is_refused values
