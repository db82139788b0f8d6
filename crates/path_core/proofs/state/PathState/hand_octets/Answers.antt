use Rattle.path_core.proofs.Words.{refl}
use Rattle.path_core.proofs.state.PathState.hand_octets.Goals as goal

pub returns-clause-ok : goal.returns-clause-ok
returns-clause-ok c =
    rw (c.in_ok-send_owned.ensures.after, c.now.ensures.value, c.requires, ← c.self.view_is, ← c.self.invariant) refl
