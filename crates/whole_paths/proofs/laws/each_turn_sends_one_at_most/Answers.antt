use Rattle.path_core.specs.Octets.{octets}
use Rattle.path_core.specs.Values.{values}
use Rattle.whole_paths.proofs.SentByTurns.{each_turn_sends_one_at_most}
use Rattle.whole_paths.proofs.laws.each_turn_sends_one_at_most.Goals as goal

pub returns-clause-octets : goal.returns-clause-octets
returns-clause-octets c = each_turn_sends_one_at_most octets

pub returns-clause-values : goal.returns-clause-values
returns-clause-values c = each_turn_sends_one_at_most values
