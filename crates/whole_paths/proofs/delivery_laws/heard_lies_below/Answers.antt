use Rattle.whole_paths.proofs.HeardBelow as below
use Rattle.whole_paths.proofs.delivery_laws.heard_lies_below.Goals as goal

pub returns : goal.returns
returns c = below.heard_lies_below
