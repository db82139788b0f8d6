use Rattle.subflow_recv.proofs.ByPosition.{what_comes_first_is_kept_lem}
use Rattle.subflow_recv.proofs.laws.what_comes_first_is_kept.Goals as goal

pub returns : goal.returns
returns c = what_comes_first_is_kept_lem
