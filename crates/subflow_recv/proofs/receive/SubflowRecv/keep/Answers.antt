use Rattle.subflow_recv.proofs.Window.{fits-put}
use Rattle.subflow_recv.proofs.receive.SubflowRecv.keep.Goals as goal

pub invariant_of-self-2 : goal.invariant_of-self-2
invariant_of-self-2 c =
    let within = rw (← c.self.view_is) at c.requires.within in
    rw c.in_ok-count.ensures.ok (c.self.invariant.0, fits-put c.self.inside.kept.from c.self.inside.window c.args.pos c.args.octets.now c.self.inside.kept.places c.self.invariant.1 within, tt)
