use Rattle.path_core.specs.Octets.{octets}
use Rattle.path_core.specs.Values.{values}
use Rattle.whole_paths.proofs.DataAcksAsked as asked
use Rattle.whole_paths.proofs.DataAcksCome as come
use Rattle.whole_paths.proofs.laws.what_is_asked_comes.Goals as goal

pub returns-clause-octets : goal.returns-clause-octets
returns-clause-octets c = asked.what_is_asked_comes octets

pub returns-clause-values : goal.returns-clause-values
returns-clause-values c = asked.what_is_asked_comes values

pub returns-clause-comes : goal.returns-clause-comes
returns-clause-comes c = come.each_ack_comes

pub returns-clause-arrives : goal.returns-clause-arrives
returns-clause-arrives c = come.each_ask_arrives
