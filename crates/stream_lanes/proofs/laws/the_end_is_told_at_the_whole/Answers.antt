use Rattle.stream_lanes.proofs.Promises.{ends_at_the_whole, ends_at_all_bytes, nothing_follows_any_end}
use Rattle.stream_lanes.proofs.laws.the_end_is_told_at_the_whole.Goals as goal

pub returns-clause-whole : goal.returns-clause-whole
returns-clause-whole c = ends_at_the_whole

pub returns-clause-all_bytes : goal.returns-clause-all_bytes
returns-clause-all_bytes c = ends_at_all_bytes

pub returns-clause-nothing_follows : goal.returns-clause-nothing_follows
returns-clause-nothing_follows c = nothing_follows_any_end
