use Rattle.path_core.specs.Octets.{octets}
use Rattle.path_core.specs.Values.{values}
use Rattle.whole_paths.proofs.HeardSaid as heard
use Rattle.whole_paths.proofs.delivery_laws.what_is_heard_was_said.Goals as goal

pub returns-clause-octets : goal.returns-clause-octets
returns-clause-octets c = heard.what_is_heard_was_said octets

pub returns-clause-values : goal.returns-clause-values
returns-clause-values c = heard.what_is_heard_was_said values
