use Rattle.std.proofs.Common.{◌≡◌, ◌∙◌, sym, ap, true}
use Rattle.send_book.specs.Steps.{is_for}
use Rattle.send_book.proofs.KeptMarks.{first_free-value, first_free-after}
use Rattle.send_book.proofs.book.SendBook.first_free.Goals as goal

pub returns-clause-value : goal.returns-clause-value
returns-clause-value c =
    let for : is_for c.args.path c.self.inside.owner ≡ true =
    ap (λ b. is_for c.args.path b.owner) c.self.view_is ∙ sym c.is_for.ensures ∙ c.if-not-is_for.false in
    rw (← c.self.view_is)
    (first_free-value c.args.path c.self.inside.marks c.self.inside.owner c.runs.result _ c.runs.ensures for c.first_in.ensures)

pub returns-clause-after : goal.returns-clause-after
returns-clause-after c =
    rw (← c.self.view_is)
    (first_free-after c.args.path c.self.inside.marks c.runs.result c.runs.ensures c.self.invariant.unacked _ c.first_in.ensures)
