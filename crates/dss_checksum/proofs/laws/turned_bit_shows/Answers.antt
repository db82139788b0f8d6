use Rattle.dss_checksum.specs.Checksum.{pseudo_header}
use Rattle.dss_checksum.proofs.Joining.{turned-back}
use Rattle.dss_checksum.proofs.laws.turned_bit_shows.Goals as goal

pub returns : goal.returns
returns c = λ mapping octets. turned-back (pseudo_header mapping) octets
