use Rattle.whole_paths.proofs.ClearRounds as rounds
use Rattle.whole_paths.proofs.delivery_laws.four_rounds_clear.Goals as goal

pub returns-clause-comes : goal.returns-clause-comes
returns-clause-comes c = rounds.four_rounds_clear

pub returns-clause-told : goal.returns-clause-told
returns-clause-told c = rounds.eight_rounds_clear
