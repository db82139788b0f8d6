use Rattle.subflow_recv.proofs.ByPosition.{kept_octets_stay_lem}
use Rattle.subflow_recv.proofs.laws.kept_octets_stay.Goals as goal

pub returns : goal.returns
returns c = kept_octets_stay_lem
