use Rattle.whole_paths.proofs.ManyEnds as many
use Rattle.whole_paths.proofs.many_laws.first_paths_end.Goals as goal

pub returns-clause-octets : goal.returns-clause-octets
returns-clause-octets c = many.first_paths_end_in_octets

pub returns-clause-values : goal.returns-clause-values
returns-clause-values c = many.first_paths_end
