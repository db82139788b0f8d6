use Rattle.whole_paths.proofs.OpeningEnds as ends
use Rattle.whole_paths.proofs.delivery_laws.one_path_ends.Goals as goal

pub returns-clause-opens : goal.returns-clause-opens
returns-clause-opens c = ends.opens_within

pub returns-clause-octets : goal.returns-clause-octets
returns-clause-octets c = ends.one_path_ends_in_octets

pub returns-clause-values : goal.returns-clause-values
returns-clause-values c = ends.one_path_ends

pub returns-clause-delivers : goal.returns-clause-delivers
returns-clause-delivers c = ends.all_news_deliver
