use Rattle.std.proofs.Common.{◌∙◌, sym}
use Rattle.send_book.proofs.KeptMarks.{acked_len-all}
use Rattle.send_book.proofs.book.SendBook.acked_len.Goals as goal

pub returns-clause-value : goal.returns-clause-value
returns-clause-value c =
    rw (← c.self.view_is) (c.forgotten.ensures.value ∙ sym (acked_len-all c.self.inside.marks c.self.invariant.unacked))
