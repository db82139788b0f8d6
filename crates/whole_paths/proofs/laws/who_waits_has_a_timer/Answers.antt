use Rattle.path_core.specs.Octets.{octets}
use Rattle.path_core.specs.Values.{values}
use Rattle.whole_paths.proofs.Reasons as reasons
use Rattle.whole_paths.proofs.laws.who_waits_has_a_timer.Goals as goal

pub returns-clause-octets : goal.returns-clause-octets
returns-clause-octets c = reasons.who_waits_has_a_timer octets

pub returns-clause-values : goal.returns-clause-values
returns-clause-values c = reasons.who_waits_has_a_timer values
