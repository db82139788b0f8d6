use Rattle.run_outside.proofs.Calling.{puts_none}
use Rattle.mptcp_run.proofs.outcome.put_last.Goals as goal

pub returns-in-Err-clause-puts : goal.returns-in-Err-clause-puts
returns-in-Err-clause-puts g c = puts_none _ _
