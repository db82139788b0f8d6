use Rattle.path_core.proofs.Words.{sym, subst, ◌≤◌, Option, ◌^◌, IfSome, OwnNotice, CanBeSaid}
use Rattle.path_core.specs.OptionsOut.{HasAddress}
use Rattle.path_core.proofs.Sayable.{can_be_said}
use Rattle.path_core.proofs.end.PathEnd.said.Goals as goal

pub returns-clause-can : goal.returns-clause-can
returns-clause-can c =
    subst (CanBeSaid c.args.profile.now.spelling c.args.side) (sym c.said_by.ensures)
    (can_be_said c.args.profile.now c.args.side c.args.self.now
    (subst (λ spelling. spelling.path ≤ 15) c.spelling-path.ensures.value c.spelling-path.ensures.path)
    (rw (← c.self.view_is) (subst (λ window. window ≤ 2 ^ 20) c.window-window.ensures.value c.window-window.ensures.bound))
    c.args.kind _ _
    (rw (← c.self.view_is) (subst (λ (notice : Option OwnNotice). IfSome notice HasAddress) c.first.ensures c.may_have_address.ensures))
    (rw (← c.self.view_is) c.first_unsent-unsent.ensures.value) c.first_unsent-unsent.ensures.bound
    (rw (← c.self.view_is) c.first_record-first.ensures.value) c.first_record-first.ensures.bound)
