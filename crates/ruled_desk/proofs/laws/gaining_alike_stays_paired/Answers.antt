use Rattle.ruled_desk.proofs.Pairing.{stay_paired}
use Rattle.ruled_desk.proofs.laws.gaining_alike_stays_paired.Goals as goal

pub returns : goal.returns
returns c = stay_paired
