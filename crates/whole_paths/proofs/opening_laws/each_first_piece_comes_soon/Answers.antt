use Rattle.whole_paths.proofs.FirstPiecesSoon.{each_first_piece_comes_soon}
use Rattle.whole_paths.proofs.opening_laws.each_first_piece_comes_soon.Goals as goal

pub returns : goal.returns
returns c = each_first_piece_comes_soon
