use Rattle.path_core.specs.Octets.{octets}
use Rattle.path_core.specs.Values.{values}
use Rattle.whole_paths.proofs.SentSoon as soon
use Rattle.whole_paths.proofs.laws.what_is_sent_comes_soon.Goals as goal

pub returns-clause-octets : goal.returns-clause-octets
returns-clause-octets c = soon.what_is_sent_comes_soon octets

pub returns-clause-values : goal.returns-clause-values
returns-clause-values c = soon.what_is_sent_comes_soon values
