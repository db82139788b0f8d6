use Rattle.whole_paths.proofs.KeysCome.{the_first_piece_waits}
use Rattle.whole_paths.proofs.delivery_laws.the_first_piece_waits.Goals as goal

pub returns : goal.returns
returns c = the_first_piece_waits
