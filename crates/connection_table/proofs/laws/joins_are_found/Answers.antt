use Rattle.connection_table.proofs.JoinsFound.{joins_are_found}
use Rattle.connection_table.proofs.laws.joins_are_found.Goals as goal

pub returns : goal.returns
returns c = joins_are_found
