use Rattle.whole_paths.proofs.EachPath as each
use Rattle.whole_paths.proofs.many_laws.each_regular_path_delivers.Goals as goal

pub returns-clause-octets : goal.returns-clause-octets
returns-clause-octets c = each.each_regular_path_delivers_in_octets

pub returns-clause-values : goal.returns-clause-values
returns-clause-values c = each.each_regular_path_delivers
