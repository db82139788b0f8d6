use Rattle.stream_lanes.proofs.Promises.{any_event_is_one_step}
use Rattle.stream_lanes.proofs.laws.each_event_is_one_pipe_step_or_none.Goals as goal

pub returns : goal.returns
returns c = any_event_is_one_step
