use Rattle.stream_lanes.proofs.Promises.{records_agree}
use Rattle.stream_lanes.proofs.laws.records_agree_with_the_book.Goals as goal

pub returns : goal.returns
returns c = records_agree
