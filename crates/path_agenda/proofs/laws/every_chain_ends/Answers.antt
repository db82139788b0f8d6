use Rattle.path_agenda.proofs.Ended.{chains_end}
use Rattle.path_agenda.proofs.laws.every_chain_ends.Goals as goal

pub returns : goal.returns
returns c = chains_end
