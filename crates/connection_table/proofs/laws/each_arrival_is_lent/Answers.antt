use Rattle.connection_table.proofs.ArrivalsLent.{each_arrival_is_lent}
use Rattle.connection_table.proofs.laws.each_arrival_is_lent.Goals as goal

pub returns : goal.returns
returns c = each_arrival_is_lent
