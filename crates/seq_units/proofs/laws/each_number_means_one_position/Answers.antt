use Rattle.seq_units.proofs.MeantPositions.{a_position_32, a_position_64}
use Rattle.seq_units.proofs.laws.each_number_means_one_position.Goals as goal

pub returns-clause-one32 : goal.returns-clause-one32
returns-clause-one32 c = a_position_32

pub returns-clause-one64 : goal.returns-clause-one64
returns-clause-one64 c = a_position_64
