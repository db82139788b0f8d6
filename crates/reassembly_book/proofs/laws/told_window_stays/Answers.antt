use Rattle.reassembly_book.proofs.Bounds.{told_window_stays}
use Rattle.reassembly_book.proofs.laws.told_window_stays.Goals as goal

pub returns : goal.returns
returns c = told_window_stays
