use Rattle.whole_paths.proofs.HolderWaits as waits
use Rattle.whole_paths.proofs.holder_laws.holders_let_go.Goals as goal

pub returns : goal.returns
returns c = waits.holders_let_go
