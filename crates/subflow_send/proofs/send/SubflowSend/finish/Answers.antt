use Rattle.subflow_send.proofs.Whole.{kept_finish}
use Rattle.subflow_send.proofs.send.SubflowSend.finish.Goals as goal

pub invariant_of-self : goal.invariant_of-self
invariant_of-self c =
    let still = rw (← c.self.view_is) at c.requires.open in
    kept_finish c.self.inside.una c.self.inside.nxt c.self.inside.syn c.self.inside.pieces c.self.inside.fin c.self.inside.finished _ c.self.invariant still
