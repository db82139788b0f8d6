use Rattle.whole_paths.proofs.OnePath as one_path
use Rattle.whole_paths.proofs.laws.what_is_left_is_past_the_edge.Goals as goal

pub returns-clause-octets : goal.returns-clause-octets
returns-clause-octets c = one_path.what_is_left_is_past_the_edge_in_octets

pub returns-clause-values : goal.returns-clause-values
returns-clause-values c = one_path.what_is_left_is_past_the_edge
