use Rattle.whole_paths.proofs.Counted as counted
use Rattle.whole_paths.proofs.delivery_laws.what_holds_up_counts.Goals as goal

pub returns : goal.returns
returns c = counted.what_holds_up_counts
