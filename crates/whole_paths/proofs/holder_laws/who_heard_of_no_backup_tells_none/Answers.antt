use Rattle.path_core.specs.Octets.{octets}
use Rattle.path_core.specs.Values.{values}
use Rattle.whole_paths.proofs.BackupAsks as backups
use Rattle.whole_paths.proofs.holder_laws.who_heard_of_no_backup_tells_none.Goals as goal

pub returns-clause-values : goal.returns-clause-values
returns-clause-values c = backups.who_heard_of_none_tells_none values

pub returns-clause-octets : goal.returns-clause-octets
returns-clause-octets c = backups.who_heard_of_none_tells_none octets
