use Rattle.std.proofs.Common.{◌≤◌, sym, ap, ◌∙◌, arith}
use Rattle.subflow_send.specs.Pieces.{piece_len}
use Rattle.subflow_send.proofs.PieceLoops.{under_way-le}
use Rattle.subflow_send.proofs.Counting.{piece_len-one}
use Rattle.subflow_send.proofs.queue.PieceQueue.send_at.Goals as goal

pub overflow_add-self : goal.overflow_add-self
overflow_add-self c =
    let bound = rw (← c.self.view_is) at c.requires.bound in
    let within = rw (← c.self.view_is) at c.requires.within in
    let one = piece_len-one c.self.inside.items.items c.args.index c.index_mut-piece.result.now within in
    omega (arith, c.len.ensures, c.self.invariant.octets, under_way-le c.self.inside.items.items, bound, one, ap piece_len c.index_mut-piece.ensures.value)
