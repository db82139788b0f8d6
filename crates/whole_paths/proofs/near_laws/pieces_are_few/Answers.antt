use Rattle.whole_paths.proofs.GrantedPieces as few
use Rattle.whole_paths.proofs.near_laws.pieces_are_few.Goals as goal

pub returns : goal.returns
returns c = few.pieces_are_few
