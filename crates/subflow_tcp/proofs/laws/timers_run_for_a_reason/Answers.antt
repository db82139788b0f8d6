use Rattle.subflow_tcp.proofs.EndLaws.{settling_sets, none_without, some_with}
use Rattle.subflow_tcp.proofs.laws.timers_run_for_a_reason.Goals as goal

pub returns-clause-timeout : goal.returns-clause-timeout
returns-clause-timeout c = settling_sets

pub returns-clause-reason : goal.returns-clause-reason
returns-clause-reason c = none_without

pub returns-clause-running : goal.returns-clause-running
returns-clause-running c = some_with
