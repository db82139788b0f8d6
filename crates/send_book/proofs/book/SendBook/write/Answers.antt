use Rattle.std.proofs.Common.{◌-◌, length, length-take, ap, arith}
use Rattle.send_book.specs.State.{Sending}
use Rattle.send_book.proofs.KeptMarks.{write-either}
use Rattle.send_book.proofs.book.SendBook.write.Goals as goal

pub invariant_of-self : goal.invariant_of-self
invariant_of-self c =
    write-either c.append.result _ _ _ c.self.inside.marks _ c.self.invariant c.append.ensures.written c.append.ensures.marks
    c.append.ensures.written_err c.append.ensures.marks_err

pub append-requires-clause-few : goal.append-requires-clause-few
append-requires-clause-few c =
    let same = ap (λ (b : Sending). length b.written) c.self.view_is in
    omega (
      arith,
      ap length c.in_ok-octets.ensures,
      length-take (c.bytes_taken-count.result - 0) c.args.bytes.now,
      c.bytes_taken-count.ensures.room,
      same,
      c.self.invariant.whole,
    )
