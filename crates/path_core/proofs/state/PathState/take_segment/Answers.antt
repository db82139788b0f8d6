use Rattle.path_core.proofs.Words.{refl}
use Rattle.path_core.proofs.state.PathState.take_segment.Goals as goal

pub returns-in_ok-self-inside-in-A-clause-ok : goal.returns-in_ok-self-inside-in-A-clause-ok
returns-in_ok-self-inside-in-A-clause-ok c =
    rw (c.in_ok-self-inside-in-A.ensures.agenda, c.in_ok-self-inside-in-A.ensures.ok, c.in_ok-told.ensures.value, c.reset_for-answer.ensures, c.is_joined-joined.ensures, ← c.self.view_is, c.in-A.is) refl

pub returns-in_ok-self-inside-in-B-clause-ok : goal.returns-in_ok-self-inside-in-B-clause-ok
returns-in_ok-self-inside-in-B-clause-ok c =
    rw (c.in_ok-self-inside-in-B.ensures.agenda, c.in_ok-self-inside-in-B.ensures.ok, c.in_ok-told.ensures.value, c.reset_for-answer.ensures, c.is_joined-joined.ensures, ← c.self.view_is, c.in-B.is) refl
