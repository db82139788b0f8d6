use Rattle.subflow_recv.proofs.ByPosition.{held_is_a_prefix_lem}
use Rattle.subflow_recv.proofs.laws.held_is_a_prefix.Goals as goal

pub returns : goal.returns
returns c = held_is_a_prefix_lem
