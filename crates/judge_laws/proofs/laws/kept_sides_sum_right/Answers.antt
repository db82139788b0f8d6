use Rattle.judge_laws.proofs.Summed.{kept_sums}
use Rattle.judge_laws.proofs.laws.kept_sides_sum_right.Goals as goal

pub returns : goal.returns
returns c = kept_sums
