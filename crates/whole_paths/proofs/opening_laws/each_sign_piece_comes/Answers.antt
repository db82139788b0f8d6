use Rattle.whole_paths.proofs.SignPieces.{each_sign_piece_comes}
use Rattle.whole_paths.proofs.opening_laws.each_sign_piece_comes.Goals as goal

pub returns : goal.returns
returns c = each_sign_piece_comes
