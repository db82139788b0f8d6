use Rattle.path_core.specs.Octets.{octets}
use Rattle.path_core.specs.Values.{values}
use Rattle.whole_paths.proofs.Acking as acking
use Rattle.whole_paths.proofs.laws.what_is_in_hand_is_acknowledged.Goals as goal

pub returns-clause-octets : goal.returns-clause-octets
returns-clause-octets c = acking.what_is_in_hand_is_acknowledged octets

pub returns-clause-values : goal.returns-clause-values
returns-clause-values c = acking.what_is_in_hand_is_acknowledged values
