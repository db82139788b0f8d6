use Rattle.world_laws.proofs.Announcements.HmacsAgree as agree
use Rattle.world_laws.proofs.Promises.Made.{addresses_in_octets}
use Rattle.world_laws.proofs.laws.addresses_are_right.Goals as goal

pub returns-clause-values : goal.returns-clause-values
returns-clause-values c = agree.addresses_are_right

pub returns-clause-octets : goal.returns-clause-octets
returns-clause-octets c = addresses_in_octets
