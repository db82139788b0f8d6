use Rattle.mptcp_run.proofs.Logged.{whole_runs_are_told, whole_runs_agree}
use Rattle.mptcp_run.proofs.laws.logs_tell_their_runs.Goals as goal

pub returns-clause-told : goal.returns-clause-told
returns-clause-told c = whole_runs_are_told

pub returns-clause-agree : goal.returns-clause-agree
returns-clause-agree c = whole_runs_agree
