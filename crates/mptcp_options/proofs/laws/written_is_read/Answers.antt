use Rattle.mptcp_options.proofs.OptionLaws.{read_again}
use Rattle.mptcp_options.proofs.laws.written_is_read.Goals as goal

pub returns : goal.returns
returns c = read_again
