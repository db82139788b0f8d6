use Rattle.connection_table.proofs.Found as found
use Rattle.connection_table.proofs.laws.written_joins_are_found.Goals as goal

pub returns : goal.returns
returns c = found.written_joins_are_found
