use Rattle.path_core.specs.Octets.{octets}
use Rattle.path_core.specs.Values.{values}
use Rattle.whole_paths.proofs.ClosingKnown as known
use Rattle.whole_paths.proofs.laws.who_heard_the_end_knows_it.Goals as goal

pub returns-clause-octets : goal.returns-clause-octets
returns-clause-octets c = known.who_heard_the_end_knows_it octets

pub returns-clause-values : goal.returns-clause-values
returns-clause-values c = known.who_heard_the_end_knows_it values

pub returns-clause-first : goal.returns-clause-first
returns-clause-first c = known.each_end_is_told_first

pub returns-clause-wanted : goal.returns-clause-wanted
returns-clause-wanted c = known.what_is_heard_is_wanted
