use Rattle.seq_units.proofs.ReadBack.{widened-low_half}
use Rattle.seq_units.proofs.laws.low_half_is_widened_back.Goals as goal

pub returns : goal.returns
returns c = widened-low_half
