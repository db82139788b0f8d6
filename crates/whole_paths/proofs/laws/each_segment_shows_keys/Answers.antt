use Rattle.whole_paths.proofs.OpeningKeys as keys
use Rattle.whole_paths.proofs.laws.each_segment_shows_keys.Goals as goal

pub returns-clause-octets : goal.returns-clause-octets
returns-clause-octets c = keys.each_segment_shows_keys

pub returns-clause-values : goal.returns-clause-values
returns-clause-values c = keys.each_segment_shows_keys
