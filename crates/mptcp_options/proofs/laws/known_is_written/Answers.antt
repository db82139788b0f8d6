use Rattle.mptcp_options.proofs.OptionLaws.{text_again}
use Rattle.mptcp_options.proofs.laws.known_is_written.Goals as goal

pub returns : goal.returns
returns c = text_again
