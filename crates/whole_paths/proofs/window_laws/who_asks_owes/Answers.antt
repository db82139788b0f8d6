use Rattle.whole_paths.proofs.AsksOwed.{who_asks_owes}
use Rattle.whole_paths.proofs.window_laws.who_asks_owes.Goals as goal

pub returns : goal.returns
returns c = who_asks_owes
