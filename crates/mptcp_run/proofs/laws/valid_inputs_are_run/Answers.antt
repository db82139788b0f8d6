use Rattle.mptcp_run.proofs.Complete as complete
use Rattle.mptcp_run.proofs.laws.valid_inputs_are_run.Goals as goal

pub returns : goal.returns
returns c = complete.valid_inputs_are_run
