use Rattle.whole_paths.proofs.JoinedPaths.{joined_paths_never_break, joined_paths_never_break_in_octets}
use Rattle.whole_paths.proofs.many_laws.joined_paths_never_break.Goals as goal

pub returns-clause-octets : goal.returns-clause-octets
returns-clause-octets c = joined_paths_never_break_in_octets

pub returns-clause-values : goal.returns-clause-values
returns-clause-values c = joined_paths_never_break
