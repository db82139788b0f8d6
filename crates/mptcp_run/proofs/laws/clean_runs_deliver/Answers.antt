use Rattle.mptcp_run.proofs.CleanRuns as clean
use Rattle.mptcp_run.proofs.laws.clean_runs_deliver.Goals as goal

pub returns : goal.returns
returns c = clean.clean_runs_deliver
