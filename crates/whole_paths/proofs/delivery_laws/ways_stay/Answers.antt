use Rattle.path_core.specs.Octets.{octets}
use Rattle.path_core.specs.Values.{values}
use Rattle.whole_paths.proofs.OnePathScripts.{only_ways_stay, ways_stay}
use Rattle.whole_paths.proofs.delivery_laws.ways_stay.Goals as goal

pub returns-clause-values : goal.returns-clause-values
returns-clause-values c = ways_stay values

pub returns-clause-octets : goal.returns-clause-octets
returns-clause-octets c = ways_stay octets

pub returns-clause-only : goal.returns-clause-only
returns-clause-only c = only_ways_stay values

pub returns-clause-only_octets : goal.returns-clause-only_octets
returns-clause-only_octets c = only_ways_stay octets
