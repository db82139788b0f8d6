use Rattle.std.proofs.Common.{◌≡◌, ◌∙◌, sym, ap, length, arith}
use Rattle.send_book.proofs.KeptMarks.{length-all}
use Rattle.send_book.proofs.Decisions.{run_len-within}
use Rattle.send_book.proofs.book.SendBook.decide.Goals as goal

pub returns-clause-within : goal.returns-clause-within
returns-clause-within c =
    let most = run_len-within c.args.path c.args.max c.args.self.now c.in-Some.from (sym c.in-Some.ensures.value) in
    let whole : length c.args.self.now.written ≡ length c.args.self.now.marks =
    ap (λ b. length b.written) (sym c.self.view_is) ∙ c.self.invariant.whole ∙ sym (length-all c.self.inside.marks)
    ∙ ap (λ b. length b.marks) c.self.view_is in
    record { after = c.in-Some.ensures.after; order = omega arith; before = omega (arith, most, whole, c.run_len.ensures) }
