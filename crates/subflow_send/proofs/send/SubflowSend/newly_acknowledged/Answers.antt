use Rattle.std.proofs.Common.{arith}
use Rattle.subflow_send.proofs.Covering.{octets_all}
use Rattle.subflow_send.proofs.send.SubflowSend.newly_acknowledged.Goals as goal

pub returns : goal.returns
returns c =
    let above = rw (← c.self.view_is) at c.requires.above in
    let within = rw (← c.self.view_is) at c.requires.within in
    let end = rw (← c.self.view_is) at c.data_end.ensures in
    let whole = octets_all c.self.inside.una c.self.inside.nxt c.self.inside.syn c.self.inside.pieces c.self.inside.fin c.self.inside.finished c.args.pos c.self.invariant above within in
    rw (← c.self.view_is) (omega (arith, c.saturating_sub.ensures, c.min.ensures, c.max.ensures, end, whole))
