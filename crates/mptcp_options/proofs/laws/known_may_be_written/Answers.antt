use Rattle.mptcp_options.proofs.OptionLaws.{may_be_written}
use Rattle.mptcp_options.proofs.laws.known_may_be_written.Goals as goal

pub returns : goal.returns
returns c = may_be_written
