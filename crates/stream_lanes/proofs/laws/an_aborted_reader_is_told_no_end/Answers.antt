use Rattle.stream_lanes.proofs.Promises.{aborted_is_no_end}
use Rattle.stream_lanes.proofs.laws.an_aborted_reader_is_told_no_end.Goals as goal

pub returns : goal.returns
returns c = aborted_is_no_end
