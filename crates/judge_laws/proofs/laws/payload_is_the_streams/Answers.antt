use Rattle.judge_laws.proofs.Brought.{segment_brought}
use Rattle.judge_laws.proofs.laws.payload_is_the_streams.Goals as goal

pub returns : goal.returns
returns c = segment_brought
