use Rattle.seq_units.proofs.ReadBack.{position_near-number_of_32, position_near-number_of_64}
use Rattle.seq_units.proofs.laws.number_is_read_back.Goals as goal

pub returns-clause-bits32 : goal.returns-clause-bits32
returns-clause-bits32 c = position_near-number_of_32

pub returns-clause-bits64 : goal.returns-clause-bits64
returns-clause-bits64 c = position_near-number_of_64
