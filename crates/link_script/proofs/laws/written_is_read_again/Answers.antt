use Rattle.link_script.proofs.RoundTrip.{text_again}
use Rattle.link_script.proofs.ReadRanges.{read_has_ranges}
use Rattle.link_script.proofs.laws.written_is_read_again.Goals as goal

pub returns : goal.returns
returns c = λ script said. text_again script (read_has_ranges said.0 script said.1)
