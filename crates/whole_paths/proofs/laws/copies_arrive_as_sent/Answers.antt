use Rattle.path_core.specs.Octets.{octets}
use Rattle.path_core.specs.Values.{values}
use Rattle.whole_paths.proofs.Due as due
use Rattle.whole_paths.proofs.laws.copies_arrive_as_sent.Goals as goal

pub returns-clause-octets : goal.returns-clause-octets
returns-clause-octets c = due.copies_arrive_as_sent octets

pub returns-clause-values : goal.returns-clause-values
returns-clause-values c = due.copies_arrive_as_sent values
