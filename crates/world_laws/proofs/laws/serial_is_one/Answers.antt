use Rattle.world_laws.proofs.Words.{values, octets}
use Rattle.world_laws.proofs.Rounds.SerialIsOne as serially
use Rattle.world_laws.proofs.laws.serial_is_one.Goals as goal

pub returns-clause-octets : goal.returns-clause-octets
returns-clause-octets c = λ w most ts us. serially.serial_is_one octets most ts us w

pub returns-clause-values : goal.returns-clause-values
returns-clause-values c = λ w most ts us. serially.serial_is_one values most ts us w
