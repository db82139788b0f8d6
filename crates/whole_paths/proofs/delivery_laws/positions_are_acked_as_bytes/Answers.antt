use Rattle.whole_paths.proofs.AckedData as acked
use Rattle.whole_paths.proofs.delivery_laws.positions_are_acked_as_bytes.Goals as goal

pub returns-clause-positions : goal.returns-clause-positions
returns-clause-positions c = acked.positions_are_acked_as_bytes

pub returns-clause-rounds : goal.returns-clause-rounds
returns-clause-rounds c = acked.four_rounds_acknowledge
