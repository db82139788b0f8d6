use Rattle.stream_lanes.proofs.Duos.{any_held}
use Rattle.stream_lanes.proofs.laws.what_holds_stays.Goals as goal

pub returns : goal.returns
returns c = any_held
