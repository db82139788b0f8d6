use Rattle.whole_paths.proofs.OpenClears as opens
use Rattle.whole_paths.proofs.debt_laws.paths_open_by_clearing.Goals as goal

pub returns : goal.returns
returns c = opens.paths_open_by_clearing
