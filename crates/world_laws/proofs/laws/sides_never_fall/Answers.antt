use Rattle.world_laws.proofs.Whole.Falls.{never_in_octets, scripts_never_fall, sides_never_fall}
use Rattle.world_laws.proofs.laws.sides_never_fall.Goals as goal

pub returns-clause-values : goal.returns-clause-values
returns-clause-values c = sides_never_fall

pub returns-clause-octets : goal.returns-clause-octets
returns-clause-octets c = never_in_octets

pub returns-clause-scripts : goal.returns-clause-scripts
returns-clause-scripts c = scripts_never_fall
