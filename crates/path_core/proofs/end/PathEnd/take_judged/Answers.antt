use Rattle.path_core.proofs.Words.{sym, subst, heard_value, copy_of, IsTakenAs, PathEnd}
use Rattle.path_core.proofs.Meanings.{taken_the_same}
use Rattle.path_core.proofs.end.PathEnd.take_judged.Goals as goal

pub take_copy_meant-requires-clause-meaning : goal.take_copy_meant-requires-clause-meaning
take_copy_meant-requires-clause-meaning c =
    let copy = copy_of (heard_value c.args.heard.now) in
    subst (λ (e : PathEnd). IsTakenAs c.args.meaning copy e.tcp) (sym c.join_by.ensures)
    (subst (λ (e : PathEnd). IsTakenAs c.args.meaning copy e.tcp) (sym c.in_ok-hold.ensures.ok)
    (taken_the_same c.args.meaning c.args.heard.now.payload.now copy c.args.self.now.tcp c.requires.meaning))
