use Rattle.std.proofs.Common.{arith}
use Rattle.subflow_send.proofs.Whole.{flight-all}
use Rattle.subflow_send.proofs.send.SubflowSend.flight.Goals as goal

pub returns : goal.returns
returns c =
    let whole = flight-all c.self.inside.una c.self.inside.nxt c.self.inside.syn c.self.inside.pieces c.self.inside.fin c.self.invariant.tile in
    rw (← c.self.view_is) (omega (arith, c.under_way.ensures, c.sent_below.ensures, whole))
