use Rattle.clean_finish.proofs.Example.{still, ticks, courses}
use Rattle.clean_finish.proofs.laws.empty_files_go_on_as_lanes.Goals as goal

pub returns : goal.returns
returns c more = (still 1 (ticks more), still 0 (ticks more), courses more)
