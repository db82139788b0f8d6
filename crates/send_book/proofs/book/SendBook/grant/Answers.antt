use Rattle.std.proofs.Common.{refl, ap}
use Rattle.send_book.specs.declared.runs.Move.TheVariants.{Give}
use Rattle.send_book.proofs.KeptMarks.{move-kept, within-kept, grant-book}
use Rattle.send_book.proofs.book.SendBook.grant.Goals as goal

pub invariant_of-self : goal.invariant_of-self
invariant_of-self c =
    let within = within-kept c.in-Ok.span _ c.self.inside.marks c.args.self.now c.self.invariant (ap (λ b. b.marks) c.self.view_is)
    (ap (λ b. b.written) c.self.view_is) c.in-Ok.ensures.within in
    rw c.in_ok-self-inside.ensures
    (move-kept (Give c.args.path) c.in-Ok.span _ c.self.inside.marks c.self.invariant within.after within.order within.before)

pub returns-clause-ok : goal.returns-clause-ok
returns-clause-ok c =
    let within = within-kept c.in-Ok.span _ c.self.inside.marks c.args.self.now c.self.invariant (ap (λ b. b.marks) c.self.view_is)
    (ap (λ b. b.written) c.self.view_is) c.in-Ok.ensures.within in
    grant-book c.args.path c.args.max c.args.standby c.in-Ok.span _ c.args.self.now c.self.inside.marks _ c.self.view_is refl
    c.in-Ok.ensures.value c.in_ok-self-inside.ensures within.after within.order
