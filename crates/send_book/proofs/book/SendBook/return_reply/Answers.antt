use Rattle.std.proofs.Common.{◌≡◌, ◌∙◌, sym, ap, length, ◌^◌, ◌<◌, arith}
use Rattle.range_marks.specs.Marks.{marks_len}
use Rattle.send_book.specs.declared.call.SendReply.TheVariants.{Returned}
use Rattle.send_book.proofs.KeptMarks.{held-runs}
use Rattle.send_book.proofs.book.SendBook.return_reply.Goals as goal

pub returns : goal.returns
returns c =
    let whole : c.written_len-written.result ≡ marks_len c.self.inside.marks =
    c.written_len-written.ensures.value ∙ sym (ap (λ b. length b.written) c.self.view_is) ∙ c.self.invariant.whole in
    let bound : marks_len c.self.inside.marks < 2 ^ 63 = omega (arith, whole, c.written_len-written.ensures.bound) in
    rw (← c.self.view_is)
    (ap Returned (c.held_in.ensures ∙ held-runs c.args.path c.self.inside.marks c.runs.result c.runs.ensures bound))
