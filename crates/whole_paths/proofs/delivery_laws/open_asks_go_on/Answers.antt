use Rattle.whole_paths.proofs.OpenAsksGoOn as asking
use Rattle.whole_paths.proofs.delivery_laws.open_asks_go_on.Goals as goal

pub returns-clause-goes_on : goal.returns-clause-goes_on
returns-clause-goes_on c = asking.open_asks_go_on

pub returns-clause-in_time : goal.returns-clause-in_time
returns-clause-in_time c = asking.open_asks_are_in_time
