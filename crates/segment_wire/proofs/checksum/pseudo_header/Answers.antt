use Rattle.std.proofs.Common.{arith}
use Rattle.segment_wire.proofs.Sums.{eight_octets}
use Rattle.segment_wire.proofs.checksum.pseudo_header.Goals as goal

pub returns : goal.returns
returns c = rw c.to_be_bytes.ensures (eight_octets c.args.addresses.now.source c.args.addresses.now.destination _ (omega arith) (omega arith))
