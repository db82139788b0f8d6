use Rattle.connection_table.proofs.Isolation.{each_is_isolated}
use Rattle.connection_table.proofs.laws.connections_are_isolated.Goals as goal

pub returns : goal.returns
returns c = each_is_isolated
