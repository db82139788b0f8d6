use Rattle.world_laws.proofs.Places.Agree as agree
use Rattle.world_laws.proofs.laws.mappings_agree.Goals as goal

pub returns-clause-values : goal.returns-clause-values
returns-clause-values c = agree.mappings_agree

pub returns-clause-octets : goal.returns-clause-octets
returns-clause-octets c = agree.mappings_agree_in_octets
