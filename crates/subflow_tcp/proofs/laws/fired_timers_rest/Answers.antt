use Rattle.subflow_tcp.proofs.EndLaws.{fired_rests}
use Rattle.subflow_tcp.proofs.laws.fired_timers_rest.Goals as goal

pub returns : goal.returns
returns c = fired_rests
