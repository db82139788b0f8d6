use Rattle.std.proofs.Common.{◌≡◌, ◌∙◌, sym, refl, min}
use Rattle.range_marks.specs.Marks.{marks_len, after_drop_front}
use Rattle.send_book.proofs.KeptMarks.{ack-kept, ack-book}
use Rattle.send_book.proofs.book.SendBook.acknowledge.Goals as goal

pub invariant_of-self : goal.invariant_of-self
invariant_of-self c =
    rw (c.drop_front.ensures, c.min.ensures, c.len.ensures.value) (ack-kept c.args.next _ c.self.inside.marks c.self.invariant)

pub returns : goal.returns
returns c =
    let grown : c.drop_front.new.self ≡ after_drop_front (min c.args.next (marks_len c.self.inside.marks)) c.self.inside.marks =
    c.drop_front.ensures ∙ rw (c.min.ensures, c.len.ensures.value) refl in
    ack-book c.args.next c.args.window _ _ _ c.args.self.now c.self.inside.marks _ c.self.view_is refl
    (sym c.is_future.ensures ∙ c.if-is_future.false) grown c.max-self-inside.ensures c.fin_after-self-inside.ensures
