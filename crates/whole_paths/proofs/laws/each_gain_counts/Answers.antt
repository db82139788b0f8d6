use Rattle.path_core.specs.Octets.{octets}
use Rattle.path_core.specs.Values.{values}
use Rattle.whole_paths.proofs.News as news
use Rattle.whole_paths.proofs.laws.each_gain_counts.Goals as goal

pub returns-clause-octets : goal.returns-clause-octets
returns-clause-octets c = news.each_gain_counts octets

pub returns-clause-values : goal.returns-clause-values
returns-clause-values c = news.each_gain_counts values
