use Rattle.segment_wire.proofs.Rewritten.{IsOctets-from_All, written_again}
use Rattle.segment_wire.proofs.laws.read_is_written_again.Goals as goal

pub returns : goal.returns
returns c = λ addresses octets segment small read. written_again addresses octets segment (IsOctets-from_All octets small) read
