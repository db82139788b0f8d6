use Rattle.stream_lanes.proofs.Promises.{paths_are_short, short_streams_are_near}
use Rattle.stream_lanes.proofs.laws.paths_are_as_short_as_the_stream.Goals as goal

pub returns-clause-short : goal.returns-clause-short
returns-clause-short c = paths_are_short

pub returns-clause-near : goal.returns-clause-near
returns-clause-near c = short_streams_are_near
