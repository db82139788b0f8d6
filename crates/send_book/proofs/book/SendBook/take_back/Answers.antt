use Rattle.std.proofs.Common.{◌≤◌, refl, arith}
use Rattle.range_marks.specs.Marks.{marks_len}
use Rattle.send_book.specs.declared.runs.Move.TheVariants.{TakeBack}
use Rattle.send_book.proofs.KeptMarks.{move-kept, return-book}
use Rattle.send_book.proofs.book.SendBook.take_back.Goals as goal

pub invariant_of-self : goal.invariant_of-self
invariant_of-self c =
    let after : c.self.inside.marks.forgotten ≤ c.forgotten.result = omega (arith, c.forgotten.ensures.value) in
    let order : c.forgotten.result ≤ c.len.result = omega (arith, c.forgotten.ensures.within, c.len.ensures.value) in
    let before : c.len.result ≤ marks_len c.self.inside.marks = omega (arith, c.len.ensures.value) in
    rw c.in_ok-self-inside.ensures (move-kept (TakeBack c.args.path) _ _ c.self.inside.marks c.self.invariant after order before)

pub returns-clause-ok : goal.returns-clause-ok
returns-clause-ok c =
    return-book c.args.path _ _ c.args.self.now c.self.inside.marks _ c.self.view_is refl
    c.forgotten.ensures.value c.len.ensures.value c.in_ok-self-inside.ensures
