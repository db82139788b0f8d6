use Rattle.std.proofs.Common.{arith}
use Rattle.segment_wire.proofs.Readable.{CanWrite-read}
use Rattle.segment_wire.proofs.changes.strip.Goals as goal

pub write_stripped-requires : goal.write_stripped-requires
write_stripped-requires c =
    CanWrite-read c.args.addresses.now c.args.octets.now c.parse.result c.in-Ok.segment (λ i. omega (arith, c.type_inv.octets i)) c.parse.ensures.exact c.in-Ok.is
