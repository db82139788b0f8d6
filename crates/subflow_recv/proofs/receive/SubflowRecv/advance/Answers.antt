use Rattle.std.proofs.Common.{arith}
use Rattle.subflow_recv.proofs.Window.{filled-le}
use Rattle.subflow_recv.proofs.receive.SubflowRecv.advance.Goals as goal

pub drop_front-requires-clause-bound : goal.drop_front-requires-clause-bound
drop_front-requires-clause-bound c =
    let within = rw (← c.self.view_is) at c.requires.within in
    omega (arith, within, filled-le c.self.inside.kept.places, c.top-top.ensures.value, c.top-top.ensures.bound)
