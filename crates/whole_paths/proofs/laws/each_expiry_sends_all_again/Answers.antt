use Rattle.path_core.specs.Octets.{octets}
use Rattle.path_core.specs.Values.{values}
use Rattle.whole_paths.proofs.SentAgain as sent
use Rattle.whole_paths.proofs.laws.each_expiry_sends_all_again.Goals as goal

pub returns-clause-octets : goal.returns-clause-octets
returns-clause-octets c = sent.each_expiry_sends_all_again octets

pub returns-clause-values : goal.returns-clause-values
returns-clause-values c = sent.each_expiry_sends_all_again values
