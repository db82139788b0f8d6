use Rattle.pcap_text.proofs.ReadAgain.{read_again}
use Rattle.pcap_text.proofs.laws.captures_are_read_again.Goals as goal

pub returns : goal.returns
returns c = read_again
