use Rattle.path_core.specs.Octets.{octets}
use Rattle.path_core.specs.Values.{values}
use Rattle.whole_paths.proofs.Mild as mild
use Rattle.whole_paths.proofs.delivery_laws.mild_links_change_nothing.Goals as goal

pub returns-clause-octets : goal.returns-clause-octets
returns-clause-octets c = mild.links_are_mild octets

pub returns-clause-values : goal.returns-clause-values
returns-clause-values c = mild.links_are_mild values
