use Rattle.path_core.specs.Octets.{octets}
use Rattle.path_core.specs.Values.{values}
use Rattle.whole_paths.proofs.QueuedWords as priorities
use Rattle.whole_paths.proofs.holder_laws.priorities_come_by_lines.Goals as goal

pub returns-clause-values : goal.returns-clause-values
returns-clause-values c = priorities.priorities_come_by_lines values

pub returns-clause-octets : goal.returns-clause-octets
returns-clause-octets c = priorities.priorities_come_by_lines octets
