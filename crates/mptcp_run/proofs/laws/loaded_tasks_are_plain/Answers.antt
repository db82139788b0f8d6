use Rattle.mptcp_run.proofs.PlainTasks as plain
use Rattle.mptcp_run.proofs.laws.loaded_tasks_are_plain.Goals as goal

pub returns-clause-promised : goal.returns-clause-promised
returns-clause-promised c = plain.loaded_tasks_are_promised

pub returns-clause-plain : goal.returns-clause-plain
returns-clause-plain c = plain.loaded_tasks_are_plain
