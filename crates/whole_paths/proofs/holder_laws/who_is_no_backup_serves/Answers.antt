use Rattle.whole_paths.proofs.Backups as backups
use Rattle.whole_paths.proofs.holder_laws.who_is_no_backup_serves.Goals as goal

pub returns-clause-values : goal.returns-clause-values
returns-clause-values c = backups.who_is_no_backup_serves

pub returns-clause-octets : goal.returns-clause-octets
returns-clause-octets c = backups.who_is_no_backup_serves_in_octets
