use Rattle.std.proofs.Common.{◌∙◌, refl}
use Rattle.send_book.proofs.KeptMarks.{moved-chain}
use Rattle.send_book.proofs.kept.moved.Goals as goal

pub returns : goal.returns
returns c =
    moved-chain c.args.change c.args.span c.args.marks.now _ _ _ _ _ _ _ c.requires.kept c.requires.order c.requires.within
    c.forgotten-forgotten.ensures.value c.len-len.ensures.value (c.in_ok-extend.ensures.ok ∙ rw c.new-new.ensures refl) c.in_ok-append_part.ensures.marks c.in_ok-append_part.ensures.len
    c.in_ok-append_part-2.ensures.marks c.in_ok-append_part-2.ensures.len c.in_ok-append_part-3.ensures.marks c.drop_front.ensures
