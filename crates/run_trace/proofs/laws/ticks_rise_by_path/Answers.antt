use Rattle.run_trace.proofs.Rising.{ticks_rise}
use Rattle.run_trace.proofs.laws.ticks_rise_by_path.Goals as goal

pub returns : goal.returns
returns c = ticks_rise
