use Rattle.judge_laws.proofs.TurnedBit.{one_breaks}
use Rattle.judge_laws.proofs.laws.one_turned_bit_is_never_kept.Goals as goal

pub returns : goal.returns
returns c = one_breaks
