use Rattle.mptcp_options.proofs.OptionLaws.{same_text}
use Rattle.mptcp_options.proofs.laws.octets_tell_the_option.Goals as goal

pub returns : goal.returns
returns c = same_text
