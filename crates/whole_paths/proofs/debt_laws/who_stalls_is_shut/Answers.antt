use Rattle.whole_paths.proofs.Stalls as stalls
use Rattle.whole_paths.proofs.debt_laws.who_stalls_is_shut.Goals as goal

pub returns : goal.returns
returns c = stalls.who_stalls_is_shut
