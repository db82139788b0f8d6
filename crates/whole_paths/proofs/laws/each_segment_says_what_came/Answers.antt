use Rattle.path_core.specs.Octets.{octets}
use Rattle.path_core.specs.Values.{values}
use Rattle.whole_paths.proofs.Saying as saying
use Rattle.whole_paths.proofs.laws.each_segment_says_what_came.Goals as goal

pub returns-clause-octets : goal.returns-clause-octets
returns-clause-octets c = saying.each_segment_says_what_came octets

pub returns-clause-values : goal.returns-clause-values
returns-clause-values c = saying.each_segment_says_what_came values
