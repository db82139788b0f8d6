use Rattle.path_core.specs.Octets.{octets}
use Rattle.path_core.specs.Values.{values}
use Rattle.whole_paths.proofs.Unroomy as room
use Rattle.whole_paths.proofs.delivery_laws.what_is_unsent_waits_for_room.Goals as goal

pub returns-clause-octets : goal.returns-clause-octets
returns-clause-octets c = room.what_is_unsent_waits_for_room octets

pub returns-clause-values : goal.returns-clause-values
returns-clause-values c = room.what_is_unsent_waits_for_room values
