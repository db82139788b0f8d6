use Rattle.world_laws.proofs.Promises.InfiniteMappingsAreRight.{infinite_mappings_are_right}
use Rattle.world_laws.proofs.Promises.InfiniteOverOctets.{infinite_mappings_are_heard_right}
use Rattle.world_laws.proofs.laws.infinite_mappings_are_right.Goals as goal

pub returns-clause-values : goal.returns-clause-values
returns-clause-values c = infinite_mappings_are_right

pub returns-clause-octets : goal.returns-clause-octets
returns-clause-octets c = infinite_mappings_are_heard_right
