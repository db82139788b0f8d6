use Rattle.connection_table.proofs.Home.{each_is_routed_home, each_join_is_routed}
use Rattle.connection_table.proofs.laws.joins_find_their_connection.Goals as goal

pub returns-clause-home : goal.returns-clause-home
returns-clause-home c = each_is_routed_home

pub returns-clause-routed : goal.returns-clause-routed
returns-clause-routed c = each_join_is_routed
