use Rattle.path_core.specs.Octets.{octets}
use Rattle.path_core.specs.Values.{values}
use Rattle.whole_paths.proofs.ClosingOwed as owed
use Rattle.whole_paths.proofs.laws.what_wants_an_answer_is_owed_one.Goals as goal

pub returns-clause-octets : goal.returns-clause-octets
returns-clause-octets c = owed.what_wants_an_answer_is_owed_one octets

pub returns-clause-values : goal.returns-clause-values
returns-clause-values c = owed.what_wants_an_answer_is_owed_one values
