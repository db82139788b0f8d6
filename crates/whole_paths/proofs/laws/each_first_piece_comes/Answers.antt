use Rattle.whole_paths.proofs.FirstPieces as pieces
use Rattle.whole_paths.proofs.laws.each_first_piece_comes.Goals as goal

pub returns : goal.returns
returns c = pieces.each_first_piece_comes
