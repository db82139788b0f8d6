use Rattle.path_core.specs.Octets.{octets}
use Rattle.path_core.specs.Values.{values}
use Rattle.whole_paths.proofs.OpeningStates as states
use Rattle.whole_paths.proofs.laws.ends_go_by_the_handshake.Goals as goal

pub returns-clause-octets : goal.returns-clause-octets
returns-clause-octets c = states.ends_go_by_the_handshake octets

pub returns-clause-values : goal.returns-clause-values
returns-clause-values c = states.ends_go_by_the_handshake values
