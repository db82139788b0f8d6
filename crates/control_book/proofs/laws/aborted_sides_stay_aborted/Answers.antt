use Rattle.control_book.proofs.Kept.{aborted_all}
use Rattle.control_book.proofs.laws.aborted_sides_stay_aborted.Goals as goal

pub returns : goal.returns
returns c = aborted_all
