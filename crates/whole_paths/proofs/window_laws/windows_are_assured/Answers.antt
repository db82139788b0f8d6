use Rattle.whole_paths.proofs.WindowsAssured as assured
use Rattle.whole_paths.proofs.window_laws.windows_are_assured.Goals as goal

pub returns-clause-by_turn : goal.returns-clause-by_turn
returns-clause-by_turn c = assured.windows_are_assured

pub returns-clause-rounds : goal.returns-clause-rounds
returns-clause-rounds c = assured.four_rounds_assure
