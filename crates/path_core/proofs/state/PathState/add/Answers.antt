use Rattle.path_core.proofs.Words.{refl}
use Rattle.path_core.proofs.state.PathState.add.Goals as goal

pub returns-clause-ok : goal.returns-clause-ok
returns-clause-ok c = rw (c.in_ok-send.ensures.after, c.now.ensures.value, ← c.self.view_is) refl
