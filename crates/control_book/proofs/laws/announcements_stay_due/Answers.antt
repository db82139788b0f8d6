use Rattle.control_book.proofs.Kept.{due_all}
use Rattle.control_book.proofs.laws.announcements_stay_due.Goals as goal

pub returns : goal.returns
returns c = due_all
