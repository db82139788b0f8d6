use Rattle.whole_paths.proofs.RecordsInTime as records
use Rattle.whole_paths.proofs.delivery_laws.records_come_in_time.Goals as goal

pub returns : goal.returns
returns c = records.records_come_in_time
