use Rattle.whole_paths.proofs.FinRounds as rounds
use Rattle.whole_paths.proofs.FinsComing as coming
use Rattle.whole_paths.proofs.delivery_laws.data_fins_come_soon.Goals as goal

pub returns-clause-by_turn : goal.returns-clause-by_turn
returns-clause-by_turn c = coming.data_fins_come_soon

pub returns-clause-stays : goal.returns-clause-stays
returns-clause-stays c = coming.data_fins_stay_soon

pub returns-clause-rounds : goal.returns-clause-rounds
returns-clause-rounds c = rounds.four_rounds_end
