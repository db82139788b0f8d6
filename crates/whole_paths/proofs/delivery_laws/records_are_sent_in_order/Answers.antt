use Rattle.path_core.specs.Octets.{octets}
use Rattle.path_core.specs.Values.{values}
use Rattle.whole_paths.proofs.SentInOrder as sent
use Rattle.whole_paths.proofs.delivery_laws.records_are_sent_in_order.Goals as goal

pub returns-clause-octets : goal.returns-clause-octets
returns-clause-octets c = sent.records_are_sent_in_order octets

pub returns-clause-values : goal.returns-clause-values
returns-clause-values c = sent.records_are_sent_in_order values
