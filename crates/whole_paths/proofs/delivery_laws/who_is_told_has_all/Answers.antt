use Rattle.whole_paths.proofs.Deliveries as deliveries
use Rattle.whole_paths.proofs.delivery_laws.who_is_told_has_all.Goals as goal

pub returns : goal.returns
returns c = deliveries.who_is_told_has_all
