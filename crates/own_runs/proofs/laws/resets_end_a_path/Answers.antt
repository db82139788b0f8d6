use Rattle.own_runs.proofs.ResetTrace.{each_reset_ends}
use Rattle.own_runs.proofs.laws.resets_end_a_path.Goals as goal

pub returns : goal.returns
returns c = each_reset_ends
