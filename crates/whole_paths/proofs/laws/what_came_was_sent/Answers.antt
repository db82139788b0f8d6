use Rattle.whole_paths.proofs.Sent as sent
use Rattle.whole_paths.proofs.laws.what_came_was_sent.Goals as goal

pub returns-clause-values : goal.returns-clause-values
returns-clause-values c = sent.what_came_was_sent

pub returns-clause-octets : goal.returns-clause-octets
returns-clause-octets c = sent.what_came_was_sent_in_octets
