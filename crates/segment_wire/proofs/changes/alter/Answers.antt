use Rattle.std.proofs.Common.{arith}
use Rattle.segment_wire.proofs.Readable.{CanWrite-read}
use Rattle.segment_wire.proofs.changes.alter.Goals as goal

pub write_altered-requires : goal.write_altered-requires
write_altered-requires c =
    CanWrite-read c.args.addresses.now c.args.octets.now c.parse.result c.in-Ok.segment (λ i. omega (arith, c.type_inv.octets i)) c.parse.ensures.exact c.in-Ok.is
