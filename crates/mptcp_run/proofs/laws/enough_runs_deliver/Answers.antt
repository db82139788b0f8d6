use Rattle.mptcp_run.proofs.CleanRuns.{enough_runs_deliver}
use Rattle.mptcp_run.proofs.laws.enough_runs_deliver.Goals as goal

pub returns : goal.returns
returns c = enough_runs_deliver
