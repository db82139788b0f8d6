use Rattle.reassembly_book.proofs.Bounds.{known_end_stays}
use Rattle.reassembly_book.proofs.laws.known_end_stays.Goals as goal

pub returns : goal.returns
returns c = known_end_stays
