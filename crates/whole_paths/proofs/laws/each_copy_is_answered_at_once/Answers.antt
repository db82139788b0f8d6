use Rattle.path_core.specs.Octets.{octets}
use Rattle.path_core.specs.Values.{values}
use Rattle.whole_paths.proofs.Owing as owing
use Rattle.whole_paths.proofs.laws.each_copy_is_answered_at_once.Goals as goal

pub returns-clause-octets : goal.returns-clause-octets
returns-clause-octets c = owing.copies_are_answered octets

pub returns-clause-values : goal.returns-clause-values
returns-clause-values c = owing.copies_are_answered values
