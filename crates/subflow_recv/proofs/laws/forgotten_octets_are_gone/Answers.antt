use Rattle.subflow_recv.proofs.ByPosition.{forgotten_octets_are_gone_lem}
use Rattle.subflow_recv.proofs.laws.forgotten_octets_are_gone.Goals as goal

pub returns : goal.returns
returns c = forgotten_octets_are_gone_lem
