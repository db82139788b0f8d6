use Rattle.std.proofs.Common.{arith}
use Rattle.subflow_send.proofs.Covering.{piece_len-all}
use Rattle.subflow_send.proofs.send.SubflowSend.resent.Goals as goal

pub send_first-requires : goal.send_first-requires
send_first-requires c =
    omega (arith, piece_len-all c.self.inside.syn c.self.inside.pieces c.self.inside.fin c.self.inside.una c.self.inside.nxt c.self.invariant.tile, c.self.invariant.bound)
