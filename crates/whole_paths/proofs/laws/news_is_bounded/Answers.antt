use Rattle.whole_paths.proofs.NewsBounds as bounds
use Rattle.whole_paths.proofs.laws.news_is_bounded.Goals as goal

pub returns-clause-octets : goal.returns-clause-octets
returns-clause-octets c = bounds.news_is_bounded_in_octets

pub returns-clause-values : goal.returns-clause-values
returns-clause-values c = bounds.news_is_bounded
