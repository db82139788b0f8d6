use Rattle.send_book.proofs.Grants.{granted_pieces_are_whole}
use Rattle.send_book.proofs.laws.granted_pieces_are_whole.Goals as goal

pub returns : goal.returns
returns c = granted_pieces_are_whole
