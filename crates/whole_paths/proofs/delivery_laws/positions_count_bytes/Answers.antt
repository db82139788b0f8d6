use Rattle.whole_paths.proofs.PositionCounts as counts
use Rattle.whole_paths.proofs.delivery_laws.positions_count_bytes.Goals as goal

pub returns : goal.returns
returns c = counts.positions_count_bytes
