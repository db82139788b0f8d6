use Rattle.capture_reader.proofs.Parts.{long_enough}
use Rattle.capture_reader.proofs.seen.segment_in.Goals as goal

pub seen_of-requires : goal.seen_of-requires
seen_of-requires c = long_enough _ _ c.in-Ok.ensures.exact
