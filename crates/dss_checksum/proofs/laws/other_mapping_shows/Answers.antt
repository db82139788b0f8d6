use Rattle.dss_checksum.specs.Checksum.{pseudo_header}
use Rattle.dss_checksum.proofs.Joining.{turned-front}
use Rattle.dss_checksum.proofs.laws.other_mapping_shows.Goals as goal

pub returns : goal.returns
returns c = λ mapping octets. turned-front (pseudo_header mapping) octets
