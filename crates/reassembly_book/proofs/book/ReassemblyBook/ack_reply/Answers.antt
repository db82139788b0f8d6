use Rattle.std.proofs.Common.{subst, arith}
use Rattle.reassembly_book.specs.State.{IsSound}
use Rattle.reassembly_book.proofs.Merging.{filled-le}
use Rattle.reassembly_book.proofs.book.ReassemblyBook.ack_reply.Goals as goal

pub overflow_sub-result : goal.overflow_sub-result
overflow_sub-result c =
    let sound : IsSound c.args.self.now = subst IsSound c.self.view_is c.self.invariant.0 in
    omega (arith, sound.fits, filled-le c.args.self.now.places, c.received-received.ensures.value, c.edge.ensures)
