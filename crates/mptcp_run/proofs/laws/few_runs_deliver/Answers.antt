use Rattle.mptcp_run.proofs.CleanRuns.{few_runs_deliver}
use Rattle.mptcp_run.proofs.laws.few_runs_deliver.Goals as goal

pub returns : goal.returns
returns c = few_runs_deliver
