use Rattle.path_core.specs.Octets.{octets}
use Rattle.path_core.specs.Values.{values}
use Rattle.whole_paths.proofs.KnownEnds as ends
use Rattle.whole_paths.proofs.laws.ends_are_known.Goals as goal

pub returns-clause-octets : goal.returns-clause-octets
returns-clause-octets c = ends.ends_are_known octets

pub returns-clause-values : goal.returns-clause-values
returns-clause-values c = ends.ends_are_known values

pub returns-clause-acknowledged : goal.returns-clause-acknowledged
returns-clause-acknowledged c = ends.what_is_closed_is_acknowledged

pub returns-clause-acknowledged_octets : goal.returns-clause-acknowledged_octets
returns-clause-acknowledged_octets c = ends.what_is_closed_is_acknowledged_in_octets
