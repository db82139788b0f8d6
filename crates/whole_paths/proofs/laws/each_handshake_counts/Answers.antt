use Rattle.path_core.specs.Octets.{octets}
use Rattle.path_core.specs.Values.{values}
use Rattle.whole_paths.proofs.Opening as opening
use Rattle.whole_paths.proofs.OpeningSyns as syns
use Rattle.whole_paths.proofs.laws.each_handshake_counts.Goals as goal

pub returns-clause-octets : goal.returns-clause-octets
returns-clause-octets c = opening.each_handshake_counts octets

pub returns-clause-values : goal.returns-clause-values
returns-clause-values c = opening.each_handshake_counts values

pub returns-clause-syns : goal.returns-clause-syns
returns-clause-syns c = syns.each_syn_counts
