use Rattle.mptcp_run.proofs.Promised as promised
use Rattle.mptcp_run.proofs.laws.runs_keep_their_promises.Goals as goal

pub returns-clause-kept : goal.returns-clause-kept
returns-clause-kept c = promised.short_tasks_are_kept

pub returns-clause-delivered : goal.returns-clause-delivered
returns-clause-delivered c = promised.delivered_runs_give_as_many

pub returns-clause-checked : goal.returns-clause-checked
returns-clause-checked c = promised.checked_runs_are_right

pub returns-clause-caused : goal.returns-clause-caused
returns-clause-caused c = promised.whole_runs_have_cause
