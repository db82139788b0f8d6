use Rattle.path_core.specs.Octets.{octets}
use Rattle.path_core.specs.Values.{values}
use Rattle.whole_paths.proofs.Copies.{copies_leave}
use Rattle.whole_paths.proofs.laws.a_copy_leaves_by_arriving.Goals as goal

pub returns-clause-octets : goal.returns-clause-octets
returns-clause-octets c = copies_leave octets

pub returns-clause-values : goal.returns-clause-values
returns-clause-values c = copies_leave values
