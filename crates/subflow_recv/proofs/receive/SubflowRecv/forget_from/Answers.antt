use Rattle.std.proofs.Common.{◌-◌}
use Rattle.subflow_recv.proofs.Window.{fits-cut}
use Rattle.subflow_recv.proofs.receive.SubflowRecv.forget_from.Goals as goal

pub invariant_of-self : goal.invariant_of-self
invariant_of-self c =
    rw c.cut_back.ensures (c.self.invariant.0, fits-cut c.self.inside.window (c.args.pos - c.self.inside.kept.from) c.self.inside.kept.places c.self.invariant.1, tt)
