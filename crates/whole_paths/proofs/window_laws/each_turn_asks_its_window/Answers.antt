use Rattle.path_core.specs.Octets.{octets}
use Rattle.path_core.specs.Values.{values}
use Rattle.whole_paths.proofs.TurnsBegin as begins
use Rattle.whole_paths.proofs.window_laws.each_turn_asks_its_window.Goals as goal

pub returns-clause-octets : goal.returns-clause-octets
returns-clause-octets c = begins.each_turn_begins octets

pub returns-clause-values : goal.returns-clause-values
returns-clause-values c = begins.each_turn_begins values
