use Rattle.whole_paths.proofs.WindowRounds as rounds
use Rattle.whole_paths.proofs.WindowsComing as coming
use Rattle.whole_paths.proofs.delivery_laws.windows_come_soon.Goals as goal

pub returns-clause-by_turn : goal.returns-clause-by_turn
returns-clause-by_turn c = coming.windows_come_soon

pub returns-clause-rounds : goal.returns-clause-rounds
returns-clause-rounds c = rounds.four_rounds_open
