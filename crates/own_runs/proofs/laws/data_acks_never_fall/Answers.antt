use Rattle.own_runs.proofs.NextTrace.{acks_rise}
use Rattle.own_runs.proofs.laws.data_acks_never_fall.Goals as goal

pub returns : goal.returns
returns c = acks_rise
