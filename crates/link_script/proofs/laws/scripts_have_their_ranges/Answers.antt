use Rattle.link_script.proofs.RoundTrip.{text_again}
use Rattle.link_script.proofs.ReadRanges.{read_has_ranges}
use Rattle.link_script.specs.Writing.{text_of}
use Rattle.link_script.proofs.laws.scripts_have_their_ranges.Goals as goal

pub returns : goal.returns
returns c = λ script. (λ said. read_has_ranges said.0 script said.1, λ ranges. (text_of script, text_again script ranges))
