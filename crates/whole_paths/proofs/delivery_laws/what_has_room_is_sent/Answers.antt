use Rattle.whole_paths.proofs.Pushed as pushed
use Rattle.whole_paths.proofs.delivery_laws.what_has_room_is_sent.Goals as goal

pub returns : goal.returns
returns c = pushed.what_has_room_is_sent
