use Rattle.path_core.specs.Octets.{octets}
use Rattle.path_core.specs.Values.{values}
use Rattle.whole_paths.proofs.News as news
use Rattle.whole_paths.proofs.laws.news_never_falls.Goals as goal

pub returns-clause-octets : goal.returns-clause-octets
returns-clause-octets c = news.news_never_falls octets

pub returns-clause-values : goal.returns-clause-values
returns-clause-values c = news.news_never_falls values
