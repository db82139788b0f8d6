use Rattle.pcap_text.proofs.HeaderSum.{headers_sum_up}
use Rattle.pcap_text.proofs.laws.headers_sum_up.Goals as goal

pub returns : goal.returns
returns c = λ source destination len four four' fits. headers_sum_up source destination len
