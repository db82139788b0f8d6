use Rattle.std.proofs.Common.{sym}
use Rattle.stamped_book.proofs.Journals.{last_stamp-last}
use Rattle.stamped_book.proofs.stamped.Stamped.last_stamp.Goals as goal

pub returns-in-Some : goal.returns-in-Some
returns-in-Some g c =
    rw (← c.self.view_is, ← c.deref.ensures.value) (sym (last_stamp-last 0 c.deref.result.now _ (sym c.in-Some.ensures.value)))
