use Rattle.whole_paths.proofs.OpenAsks as awry
use Rattle.whole_paths.proofs.delivery_laws.open_ends_hardly_go_awry.Goals as goal

pub returns : goal.returns
returns c = awry.open_ends_hardly_go_awry
