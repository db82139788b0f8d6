use Rattle.whole_paths.proofs.Serving as serving
use Rattle.whole_paths.proofs.holder_laws.who_serves_asks_so.Goals as goal

pub returns-clause-values : goal.returns-clause-values
returns-clause-values c = serving.who_serves_asks_so

pub returns-clause-octets : goal.returns-clause-octets
returns-clause-octets c = serving.who_serves_asks_so_in_octets

pub returns-clause-since : goal.returns-clause-since
returns-clause-since c = serving.who_serves_since_asks_so

pub returns-clause-since_octets : goal.returns-clause-since_octets
returns-clause-since_octets c = serving.who_serves_since_asks_so_in_octets
