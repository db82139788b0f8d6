use Rattle.std.proofs.Common.{◌+◌, length, refl, ap, arith}
use Rattle.subflow_send.proofs.Whole.{kept_push}
use Rattle.subflow_send.proofs.send.SubflowSend.push.Goals as goal

pub invariant_of-self-2 : goal.invariant_of-self-2
invariant_of-self-2 c =
    let still = rw (← c.self.view_is) at c.requires.open in
    let room = rw (← c.self.view_is) at c.requires.room in
    let same = ap length c.in_ok-bytes.ensures in
    rw (c.in_ok-push.ensures.ok, c.len.ensures)
    (kept_push c.self.inside.una c.self.inside.nxt c.self.inside.syn c.self.inside.pieces c.self.inside.fin c.self.inside.finished _ (c.self.inside.nxt + length c.args.piece.now)
    c.self.invariant still refl (omega (arith, same, c.requires.some)) (omega (arith, same, c.requires.most)) room (omega (arith, same)))
