use Rattle.std.proofs.Common.{◌∙◌}
use Rattle.send_book.proofs.KeptMarks.{gathered-runs}
use Rattle.send_book.proofs.book.SendBook.comes_first.Goals as goal

pub returns : goal.returns
returns c =
    rw (← c.self.view_is)
    (c.gathered_in.ensures ∙ gathered-runs c.args.path c.self.inside.marks c.runs.result c.runs.ensures c.self.invariant.unacked)
